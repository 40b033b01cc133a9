-- Floats by their bits, worked out by hand.
use Rattle.words.proofs.Plain.{◌≡◌, refl, true, false, [], ◌∷◌}
use lib.IntN.{negsuc}
use lib.Ieee.{fin, of_bits, of_fields, odd, to_bits, size, span, climb}
use Rattle.desk_spec.specs.Floats.{pattern_of, float_of, digits_of}

-- 3fc00000 is 1.5, that is 3 / 2
pub one_and_a_half : float_of (3 ∷ 15 ∷ 12 ∷ 0 ∷ 0 ∷ 0 ∷ 0 ∷ 0 ∷ []) ≡ fin false 3 (negsuc 0)
unfolding pattern_of of_bits of_fields odd
one_and_a_half = refl

-- and back
pub three_halves : digits_of (fin false 3 (negsuc 0)) ≡ (3 ∷ 15 ∷ 12 ∷ 0 ∷ 0 ∷ 0 ∷ 0 ∷ 0 ∷ [])
unfolding to_bits size span climb
three_halves = refl

-- bf000001 is a little below - 1/2: the first digit is the highest, and the last the lowest
pub below-zero : float_of (11 ∷ 15 ∷ 0 ∷ 0 ∷ 0 ∷ 0 ∷ 0 ∷ 1 ∷ []) ≡ fin true 8388609 (negsuc 23)
unfolding pattern_of of_bits of_fields odd
below-zero = refl
