-- Reflectances in a line: a 32-bit float is written by its bits, eight hexadecimal digits, the highest first. So each float can be asked, and what is asked is no other one.
--     pattern_of ds        the number of eight digits
--     float_of ds       the float with these bits
--     digits_of x       the eight digits of a float's bits
--     first_card xs        the card: the first two floats
-- A float's bits worked out by hand: proofs/Floats.
use Rattle.std.specs.Prelude.{ℕ, ◌+◌, ◌*◌, ◌/◌, ◌%◌, List, [], ◌∷◌, get_or, Float}
use Rattle.std.specs.Float.{nan, binary32}
use Rattle.std.specs.Float.Ieee.{of_bits, to_bits}
use Rattle.density_spec.specs.declared.Card.{Card}

unfoldable pub pattern_of : List ℕ → ℕ
pattern_of ds =
    (((get_or ds 0 0 * 16 + get_or ds 1 0) * 256 + (get_or ds 2 0 * 16 + get_or ds 3 0)) * 256 + (get_or ds 4 0 * 16 + get_or ds 5 0)) * 256 + (get_or ds 6 0 * 16 + get_or ds 7 0)

abbrev pub float_of : List ℕ → Float
float_of ds = of_bits binary32 (pattern_of ds)

-- the digits of a number below 16 to the power 8
abbrev pub eight_digits : ℕ → List ℕ
eight_digits b =
    b / 268435456 % 16 ∷ b / 16777216 % 16 ∷ b / 1048576 % 16 ∷ b / 65536 % 16 ∷ b / 4096 % 16 ∷ b / 256 % 16 ∷ b / 16 % 16 ∷ b / 1 % 16 ∷ []

abbrev pub digits_of : Float → List ℕ
digits_of x = eight_digits (to_bits binary32 x)

abbrev pub first_card : List Float → Card
first_card xs = record { dark = get_or xs 0 nan; light = get_or xs 1 nan }
