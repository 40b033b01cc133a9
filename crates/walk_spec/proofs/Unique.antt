-- No two different answers of a start, or of a step, satisfy its contract: neither the outcome nor the record handed back is left open.
use Rattle.std.specs.Prelude.{Result, Ok, Err}
use Rattle.words.proofs.Plain.{ℕ, arith, ◌≡◌, refl, sym, ap, ◌∙◌, Bool, some, List}
use Rattle.rings.specs.{Prenecklace.prenecklace, Steps.moves}
use Rattle.refusal.specs.{declared.Refusal.Refusal, Calls.walk_start}
use Rattle.refusal.proofs.Unique.{one-refusal, never_both}
use Rattle.walk_spec.specs.{declared.Walk.Walk, declared.Started.Started, declared.Stepped.Stepped}
use Rattle.walk_spec.specs.declared.Outcome.{Outcome}
use Rattle.walk_spec.specs.declared.Outcome.TheVariants.{Moved, Done}
use Rattle.walk_spec.specs.Record.{ring_of, walk_of, walk_asked}
use Rattle.walk_spec.specs.Says.{StartSays, StepSays, Onto, Ended}

-- a record and an answer that both have one value make one result
same_start : (v v' : Walk) (a a' : Result Unit Refusal) → v ≡ v' → a ≡ a' → ◌≡◌ {A = Started} (record { walk = v; answer = a }) (record { walk = v'; answer = a' })
same_start v v' a a' p q = λ i. record { walk = p i; answer = q i }

same_step : (v v' : Walk) (o o' : Result Outcome Refusal) → v ≡ v' → o ≡ o' → ◌≡◌ {A = Stepped} (record { walk = v; outcome = o }) (record { walk = v'; outcome = o' })
same_step v v' o o' p q = λ i. record { walk = p i; outcome = q i }

-- a start has one answer
pub one-start : (s : List ℕ) (k : ℕ) (v v' : Walk) (a a' : Result Unit Refusal) → StartSays s k v a → StartSays s k v' a' → ◌≡◌ {A = Started}
    (record { walk = v; answer = a }) (record { walk = v'; answer = a' })
one-start s k v v' (Ok _) (Ok _) p q = same_start v v' _ _ (p.1 ∙ sym q.1) refl
one-start s k v v' (Ok _) (Err t) p q = absurd (never_both (walk_start s k (prenecklace s)) t q.0 p.0)
one-start s k v v' (Err r) (Ok _) p q = absurd (never_both (walk_start s k (prenecklace s)) r p.0 q.0)
one-start s k v v' (Err r) (Err t) p q =
    same_start v v' _ _ (p.1 ∙ sym q.1) (ap Err (one-refusal (walk_start s k (prenecklace s)) r t p.0 q.0))

module _ (kind : List ℕ → Bool) (w v v' : Walk) where
  -- two rings that a step came to are one
  one-ring : (m m' : ℕ) (p : Onto kind w v m) (q : Onto kind w v' m') → p.to ≡ q.to
  one-ring m m' p q = cc (p.next, q.next)

  not-both : (m m' : ℕ) → Onto kind w v m → Ended kind w v' m' → ⊥
  not-both m m' p q = let z : ◌≡◌ {A = ℕ} 0 1 = cc (p.next, q.next) in omega arith

-- a step has one answer
pub one-step : (kind : List ℕ → Bool) (w v v' : Walk) (o o' : Result Outcome Refusal) → StepSays kind w v o → StepSays kind w v' o' → ◌≡◌ {A = Stepped}
    (record { walk = v; outcome = o }) (record { walk = v'; outcome = o' })
one-step kind w v v' (Ok (Moved m)) (Ok (Moved m')) p q =
    let e = one-ring kind w v v' m m' p q in
    same_step v v' _ _ (p.handed ∙ ap (walk_of w.k) e ∙ sym q.handed) (ap (λ t. Ok (Moved t)) (p.counted ∙ ap (λ (u : List ℕ). moves w.k (ring_of w) (some u)) e ∙ sym q.counted))
one-step kind w v v' (Ok (Moved m)) (Ok (Done m')) p q = absurd (not-both kind w v v' m m' p q)
one-step kind w v v' (Ok (Moved m)) (Err t) p q = absurd (never_both (walk_asked w) t q.0 p.good)
one-step kind w v v' (Ok (Done m)) (Ok (Moved m')) p q = absurd (not-both kind w v' v m' m q p)
one-step kind w v v' (Ok (Done m)) (Ok (Done m')) p q = same_step v v' _ _ (p.handed ∙ sym q.handed) (ap (λ t. Ok (Done t)) (p.counted ∙ sym q.counted))
one-step kind w v v' (Ok (Done m)) (Err t) p q = absurd (never_both (walk_asked w) t q.0 p.good)
one-step kind w v v' (Err r) (Ok (Moved m')) p q = absurd (never_both (walk_asked w) r p.0 q.good)
one-step kind w v v' (Err r) (Ok (Done m')) p q = absurd (never_both (walk_asked w) r p.0 q.good)
one-step kind w v v' (Err r) (Err t) p q =
    same_step v v' _ _ (p.1 ∙ sym q.1) (ap Err (one-refusal (walk_asked w) r t p.0 q.0))
