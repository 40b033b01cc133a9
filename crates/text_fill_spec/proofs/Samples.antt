-- Filled texts worked out by hand.
use Rattle.words.proofs.Plain.{ℕ, ◌≡◌, refl, List, [], ◌∷◌}
use Rattle.text_spec.specs.{Ascii.ascii, Decimal.decimal_in, Decimal.decimal}
use Rattle.text_fill_spec.specs.Filled.{filled_text}

-- numbers and a ring, each in its place
pub ring-and-numbers : filled_text (ascii "home @ shift % period %\n") (4 ∷ 16 ∷ []) 3 (0 ∷ 1 ∷ 12 ∷ []) ≡ ascii "home 01c shift 4 period 16\n"
unfolding filled_text decimal decimal_in
ring-and-numbers = refl

-- two rings, one behind the other in w
pub two-rings : filled_text (ascii "@ is % from @") (2 ∷ []) 2 (0 ∷ 1 ∷ 2 ∷ 3 ∷ []) ≡ ascii "01 is 2 from 23"
unfolding filled_text decimal decimal_in
two-rings = refl

-- no slot is left: a number that is not there is 0, a ring that is not there has no sectors
pub nothing-there : filled_text (ascii "[@] %") [] 5 [] ≡ ascii "[] 0"
unfolding filled_text decimal decimal_in
nothing-there = refl
