-- Of the turns of a reading at most one comes near a steady reading.
--     one-turn    where one turn of r differs from a steady v at no more than x places, every other differs from it at more than e, where x and e are together below d
use Rattle.words.proofs.Plain.{ℕ, ◌+◌, ◌-◌, ◌<◌, ◌≤◌, arith, ◌≡◌, ap, ◌∙◌, List, length}
use Rattle.words.specs.Turn.{turn}
use Rattle.words.proofs.Split.{lt, eq, gt, tri}
use Rattle.words.proofs.Turn.{turn-turn, turn-turn-past}
use Rattle.rings.specs.Alike.{differing}
use Rattle.home_spec.specs.Turns.{Steady}
use Rattle.home_turns_laws.proofs.Steady.{further}

-- a reading r, and a ring v that none of its own turns comes near
module _ (d x e : ℕ) (r v : List ℕ) (size : length r ≡ length v) (steady : Steady d v) (small : x + e < d) where
  pub one-turn : (i j : ℕ) → i < length r → j < length r → (i ≡ j → ⊥) → differing (turn i r) v ≤ x → e < differing (turn j r) v
  one-turn i j h l other near =
      let on = further d x e r v size steady small i j in
      elim (tri i j) [
        | lt q ↦ on (j - i) (omega arith) (omega arith) (omega arith) (turn-turn i (j - i) r (omega arith) ∙ ap (λ (y : ℕ). turn y r) (omega arith)) near
        | eq q ↦ absurd (other q)
        | gt q ↦ on (length r - i + j) (omega arith) (omega arith) (omega arith) (turn-turn-past i (length r - i + j) j r (omega arith) (omega arith) (omega arith)) near
      ]
