-- How often a shade stands in a word.
--     occurs-none                 not at all in no sectors
--     occurs-here, occurs-other   once more where it stands at the front, and as often where another stands there
--     occurs-past                 not at all where it is past the greatest
use Rattle.words.proofs.Plain.{ℕ, suc, ◌<◌, ◌≤◌, arith, ◌≡◌, refl, ◌∙◌, List, [], ◌∷◌, length, eq-eqb, ne_eqb}
use Rattle.words.proofs.Sequence.{sec}
use Rattle.rings.specs.Counts.{occurs}

-- none stands in no sectors
pub occurs-none : (b : ℕ) → occurs b [] ≡ 0
unfolding occurs
occurs-none b = refl

-- one more where it stands at the front
pub occurs-here : (a b : ℕ) (w : List ℕ) → a ≡ b → occurs b (a ∷ w) ≡ suc (occurs b w)
unfolding occurs
occurs-here a b w e = rw (eq-eqb a b e) (omega arith)

-- and none where another stands there
pub occurs-other : (a b : ℕ) (w : List ℕ) → (a ≡ b → ⊥) → occurs b (a ∷ w) ≡ occurs b w
unfolding occurs
occurs-other a b w h = rw (ne_eqb a b h) (omega arith)

-- a shade that no sector has does not occur
pub occurs-past : (b k : ℕ) (w : List ℕ) → ((i : ℕ) → i < length w → sec w i < k) → k ≤ b → occurs b w ≡ 0
occurs-past b k [] h l = occurs-none b
occurs-past b k (a ∷ w) h l = occurs-other a b w (λ e. omega (arith, h 0 (omega arith))) ∙ occurs-past b k w (λ i m. h (suc i) (omega arith)) l
