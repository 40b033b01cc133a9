-- Texts compared, and readings place by place.
--     same_eq            two texts that `==` tells apart are not the same
--     Upto, upto-not     a reading that is spelt up to a place
use Rattle.words.proofs.Plain.{ℕ, ◌<◌, ◌≡◌, refl, sym, List, [], ◌∷◌, eqb, length, get_or}
use Rattle.std.specs.Prelude.{None}
use Rattle.std.specs.Cmp.Lexicographic.{pointwise}
use Rattle.words.specs.Order.{same}
use Rattle.text_spec.specs.Text.{hex_of}
use Rattle.text_words_spec.specs.Words.{Spelt}
use Rattle.text_words_spec.proofs.Spelling.{spelt-at}
use Rattle.text_spell_inner.specs.Says.{DigitSays}

-- `==` of two texts tells whether they are the same
pub same_eq : (a b : List ℕ) → pointwise eqb a b ≡ same a b
unfolding same
same_eq [] [] = refl
same_eq [] (y ∷ b) = refl
same_eq (x ∷ a) [] = refl
same_eq (x ∷ a) (y ∷ b) = rw (same_eq a b)

-- ---- readings

abbrev pub Upto : List ℕ → List ℕ → ℕ → Type 0
Upto t w i = (j : ℕ) → j < i → (get_or w j 0 < 16) × (hex_of (get_or w j 0) ≡ get_or t j 0)

-- what is no digit spells no sector
pub upto-not : (t : List ℕ) (i : ℕ) → i < length t → DigitSays (get_or t i 0) None → (w : List ℕ) → Spelt t w → ⊥
upto-not t i h d w p = let q = spelt-at t w p i h in d (get_or w i 0) q.1 (sym q.0)
