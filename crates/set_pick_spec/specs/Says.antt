-- What picking a target set promises (02, 'g'), by cases on the answer.
--     SetChosen n k d want ts p t f      the set ts for these numbers: the places p, the number taken t, and whether that is the wanted number, f
--     Chosen n k d want p t f            the set of 02, 'g'
--     Nothing p t f                      all 0 and not full
--     SetAnswers, SetSays n k d want ts r    what the answer r promises, where the set is to be ts
--     Picks, PickSays n k d want r           and where it is that of 02, 'g'
--     GuardChosen, GuardSays n k d want r    and where it is the guarded one
-- That no two answers fit, and what the answer's set is worth: proofs/Unique, proofs/Worth.
use Rattle.std.specs.Prelude.{ℕ, ◌≡◌, Bool, false, List, length, replicate, eqb, Result, Ok, Err}
use Rattle.refusal.specs.declared.Refusal.{Refusal}
use Rattle.refusal.specs.Order.{Given}
use Rattle.set_spec.specs.Greedy.{picked}
use Rattle.set_spec.specs.Places.{laid}
use Rattle.guard_spec.specs.Choice.{guarded}
use Rattle.set_pick_spec.specs.declared.Picked.{Picked}
use Rattle.set_pick_spec.specs.Order.{set_order, Askable}

-- the set ts for these numbers
pub record SetChosen (n k d want : ℕ) (ts : List (List ℕ)) (p : List ℕ) (t : ℕ) (f : Bool) : Type 0 where
  pub asked : Askable n k d want
  pub places : p ≡ laid ts
  pub number : t ≡ length ts
  pub full : f ≡ eqb (length ts) want

-- a refusal answers all 0 and not full
pub record Nothing (p : List ℕ) (t : ℕ) (f : Bool) : Type 0 where
  pub places : p ≡ replicate 768 0
  pub number : t ≡ 0
  pub full : f ≡ false

abbrev pub SetAnswers : ℕ → ℕ → ℕ → ℕ → List (List ℕ) → List ℕ → ℕ → Bool → Result Unit Refusal → Type 0
SetAnswers n k d want ts p t f (Ok _) = SetChosen n k d want ts p t f
SetAnswers n k d want ts p t f (Err r) = Given (set_order n k d want) r × Nothing p t f

abbrev pub SetSays : ℕ → ℕ → ℕ → ℕ → List (List ℕ) → Picked → Type 0
SetSays n k d want ts r = SetAnswers n k d want ts r.places r.taken r.full r.answer

-- ---- the set of 02, 'g'

abbrev pub Chosen : ℕ → ℕ → ℕ → ℕ → List ℕ → ℕ → Bool → Type 0
Chosen n k d want = SetChosen n k d want (picked n k d want)

abbrev pub Picks : ℕ → ℕ → ℕ → ℕ → List ℕ → ℕ → Bool → Result Unit Refusal → Type 0
Picks n k d want = SetAnswers n k d want (picked n k d want)

abbrev pub PickSays : ℕ → ℕ → ℕ → ℕ → Picked → Type 0
PickSays n k d want r = Picks n k d want r.places r.taken r.full r.answer

-- ---- the guarded set

abbrev pub GuardChosen : ℕ → ℕ → ℕ → ℕ → List ℕ → ℕ → Bool → Type 0
GuardChosen n k d want = SetChosen n k d want (guarded n k d want)

abbrev pub GuardSays : ℕ → ℕ → ℕ → ℕ → Picked → Type 0
GuardSays n k d want r = SetSays n k d want (guarded n k d want) r
