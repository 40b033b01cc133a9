-- No two different answers satisfy the contract of a pick, plain or guarded.
--     askable-passed      a set that may be asked for passes every check
--     passed-askable      and the other way round
--     one-check           the checks have one answer
--     one_set             whatever the set is to be, there is one answer, each of its 768 sectors included
--     one-pick            so the call has one answer
--     one-guarded         and the one for guarded sets
use Rattle.std.specs.Prelude.{Result, Ok, Err}
use Rattle.words.proofs.Plain.{ℕ, ◌≡◌, refl, sym, ap, ◌∙◌, Bool, List}
use Rattle.refusal.specs.{declared.Refusal.Refusal, Order.Passed, Order.Given}
use Rattle.refusal.proofs.Unique.{one-refusal, never_both}
use Rattle.limits_spec.proofs.Unique.{listable-passed, passed-listable}
use Rattle.set_spec.specs.Greedy.{picked}
use Rattle.guard_spec.specs.Choice.{guarded}
use Rattle.set_pick_spec.specs.declared.Picked.{Picked}
use Rattle.set_pick_spec.specs.Order.{most_readings, set_order, Askable, SetCheckSays}
use Rattle.set_pick_spec.specs.Says.{SetAnswers, SetSays, PickSays, GuardSays}

-- ---- the checks

module _ (n k d want : ℕ) where
  pub askable-passed : Askable n k d want → Passed (set_order n k d want)
  askable-passed q = ((q.short, listable-passed most_readings k n q.numbers), q.settable)

  pub passed-askable : Passed (set_order n k d want) → Askable n k d want
  passed-askable p = record { short = p.0.0; numbers = passed-listable most_readings k n p.0.1; settable = p.1 }

  never : (r : Refusal) → Given (set_order n k d want) r → Askable n k d want → ⊥
  never r g q = never_both (set_order n k d want) r g (askable-passed q)

  pub one-check : (v w : Result Unit Refusal) → SetCheckSays n k d want v → SetCheckSays n k d want w → v ≡ w
  one-check (Ok _) (Ok _) p q = refl
  one-check (Ok _) (Err s) p q = absurd (never s q p)
  one-check (Err r) (Ok _) p q = absurd (never r p q)
  one-check (Err r) (Err s) p q = ap Err (one-refusal (set_order n k d want) r s p q)

-- ---- the answer

same-pick : (a b : Picked) → a.places ≡ b.places → a.taken ≡ b.taken → a.full ≡ b.full → a.answer ≡ b.answer → a ≡ b
same-pick a b p q r s = λ i. record { places = p i; taken = q i; full = r i; answer = s i }

module _ (n k d want : ℕ) (ts : List (List ℕ)) where
  fields : (p p' : List ℕ) (t t' : ℕ) (f f' : Bool) (v v' : Result Unit Refusal) → SetAnswers n k d want ts p t f v → SetAnswers n k d want ts p' t' f' v' → (p ≡ p') × (t ≡ t') × (f ≡ f') × (v ≡ v')
  fields p p' t t' f f' (Ok _) (Ok _) a b = (a.places ∙ sym b.places, a.number ∙ sym b.number, a.full ∙ sym b.full, refl)
  fields p p' t t' f f' (Ok _) (Err s) a b = absurd (never n k d want s b.0 a.asked)
  fields p p' t t' f f' (Err r) (Ok _) a b = absurd (never n k d want r a.0 b.asked)
  fields p p' t t' f f' (Err r) (Err s) a b =
      (a.1.places ∙ sym b.1.places, a.1.number ∙ sym b.1.number, a.1.full ∙ sym b.1.full, ap Err (one-refusal (set_order n k d want) r s a.0 b.0))

  -- whatever the set is to be, there is one answer
  pub one_set : (a b : Picked) → SetSays n k d want ts a → SetSays n k d want ts b → a ≡ b
  one_set a b p q =
      let e = fields a.places b.places a.taken b.taken a.full b.full a.answer b.answer p q in
      same-pick a b e.0 e.1 e.2 e.3

module _ (n k d want : ℕ) where
  -- the call has one answer
  pub one-pick : (a b : Picked) → PickSays n k d want a → PickSays n k d want b → a ≡ b
  one-pick = one_set n k d want (picked n k d want)

  -- so has the one for guarded sets
  pub one-guarded : (a b : Picked) → GuardSays n k d want a → GuardSays n k d want b → a ≡ b
  one-guarded = one_set n k d want (guarded n k d want)
