-- No two different answers of the step to the next bracelet satisfy its contract: neither the answer nor the record handed back is left open.
use Rattle.std.specs.Prelude.{Result, Ok, Err}
use Rattle.words.proofs.Plain.{ℕ, arith, ◌≡◌, refl, sym, ap, ◌∙◌}
use Rattle.refusal.specs.declared.Refusal.{Refusal}
use Rattle.refusal.proofs.Unique.{one-refusal, never_both}
use Rattle.walk_spec.specs.{declared.Walk.Walk, Record.walk_of, Record.walk_asked}
use Rattle.walk_bracelet_spec.specs.{declared.Arrived.Arrived, declared.Arrival.Arrival}
use Rattle.walk_bracelet_spec.specs.declared.Arrival.TheVariants.{Moved, Done}
use Rattle.walk_bracelet_spec.specs.Says.{ArrivalSays, Onward, Last}

-- a record and an answer that both have one value make one result
same-arrival : (v v' : Walk) (a a' : Result Arrival Refusal) → v ≡ v' → a ≡ a' → ◌≡◌ {A = Arrived} (record { walk = v; arrival = a }) (record { walk = v'; arrival = a' })
same-arrival v v' a a' p q = λ i. record { walk = p i; arrival = q i }

-- two rings that a step came to are one
one-ring : (w v v' : Walk) (p : Onward w v) (q : Onward w v') → p.to ≡ q.to
one-ring w v v' p q = cc (p.next, q.next)

not-both : (w v v' : Walk) → Onward w v → Last w v' → ⊥
not-both w v v' p q = let z : ◌≡◌ {A = ℕ} 0 1 = cc (p.next, q.next) in omega arith

-- the step has one answer
pub one-arrival : (w v v' : Walk) (a a' : Result Arrival Refusal) → ArrivalSays w v a → ArrivalSays w v' a' → ◌≡◌ {A = Arrived} (record { walk = v; arrival = a }) (record { walk = v'; arrival = a' })
one-arrival w v v' (Ok Moved) (Ok Moved) p q = same-arrival v v' _ _ (p.handed ∙ ap (walk_of w.k) (one-ring w v v' p q) ∙ sym q.handed) refl
one-arrival w v v' (Ok Moved) (Ok Done) p q = absurd (not-both w v v' p q)
one-arrival w v v' (Ok Moved) (Err t) p q = absurd (never_both (walk_asked w) t q.0 p.good)
one-arrival w v v' (Ok Done) (Ok Moved) p q = absurd (not-both w v' v q p)
one-arrival w v v' (Ok Done) (Ok Done) p q = same-arrival v v' _ _ (p.kept ∙ sym q.kept) refl
one-arrival w v v' (Ok Done) (Err t) p q = absurd (never_both (walk_asked w) t q.0 p.good)
one-arrival w v v' (Err r) (Ok Moved) p q = absurd (never_both (walk_asked w) r p.0 q.good)
one-arrival w v v' (Err r) (Ok Done) p q = absurd (never_both (walk_asked w) r p.0 q.good)
one-arrival w v v' (Err r) (Err t) p q =
    same-arrival v v' _ _ (p.1 ∙ sym q.1) (ap Err (one-refusal (walk_asked w) r t p.0 q.0))
