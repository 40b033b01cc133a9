-- The card, its cuts, and the shade of a value (02, i). A value is a 32-bit float; every operation is that of 32-bit floats, rounded once (`lib.Ieee`).
--     good_card c       0 <= dark < light <= 1
--     cut c k j        cut j: dark + ((light - dark) x (2j - 1)) / (2k - 2), the operations in that order
--     cuts_up_to c k x m    how many of the cuts 1 to m are not above x
--     shade_of c k x    how many of the cuts 1 to k - 1 are not above x
--     NoNumber x, Out x, In x    x is not a number; it is one, and below 0 or above 1; it is one, and neither
-- Of the three a value is exactly one, and `In x` says 0 <= x <= 1; a brighter value has no lower shade, and each shade is below k: density_laws, Values and Shades.
use Rattle.std.specs.Prelude.{ℕ, zero, suc, ◌+◌, ◌-◌, ◌*◌, ◌≡◌, Bool, true, false, ◌&&◌, ◌⊎◌, pos, Float}
use Rattle.std.specs.Float.{binary32}
use Rattle.std.specs.Float.Ieee.{add, sub, mul, div, of_int, of_bits, lt, le, ne}
use Rattle.words.specs.Readings.{bit}
use Rattle.density_spec.specs.declared.Card.{Card}

-- 0 and 1 as 32-bit floats
abbrev pub zero32 : Float
zero32 = of_bits binary32 0

abbrev pub one32 : Float
one32 = of_bits binary32 0x3f80_0000

-- a whole number as a 32-bit float
abbrev pub whole32 : ℕ → Float
whole32 m = of_int binary32 (pos m)

-- 0 <= dark < light <= 1; false of a card with a field that is not a number
abbrev pub good_card : Card → Bool
good_card c = le zero32 c.dark && (lt c.dark c.light && le c.light one32)

-- cut j: the light less the dark; that times 2j - 1; that by 2k - 2; the dark and that
abbrev pub cut : Card → ℕ → ℕ → Float
cut c k j =
    let range = sub binary32 c.light c.dark in
    let part = div binary32 (mul binary32 range (whole32 (2 * j - 1))) (whole32 (2 * k - 2)) in
    add binary32 c.dark part

-- how many of the cuts 1 to m are not above x
unfoldable pub cuts_up_to : Card → ℕ → Float → ℕ → ℕ
cuts_up_to c k x zero = 0
cuts_up_to c k x (suc m) = cuts_up_to c k x m + bit (le (cut c k (suc m)) x)

-- the shade of a value: the number of cuts not above it
abbrev pub shade_of : Card → ℕ → Float → ℕ
shade_of c k x = cuts_up_to c k x (k - 1)

-- ---- what a value is

-- only what is not a number differs from itself
abbrev pub NoNumber : Float → Type 0
NoNumber x = ne x x ≡ true

-- below 0 or above 1
abbrev pub Out : Float → Type 0
Out x = (ne x x ≡ false) × ((lt x zero32 ≡ true) ⊎ (lt one32 x ≡ true))

-- neither: the value has a shade. Both zeros do
abbrev pub In : Float → Type 0
In x = (ne x x ≡ false) × (lt x zero32 ≡ false) × (lt one32 x ≡ false)
