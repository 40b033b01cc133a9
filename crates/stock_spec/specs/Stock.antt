-- Stock targets (01, 'Stock table'): 8 sectors of 2 shades, kept as a byte with the first sector in the highest bit.
--     bits n b      the n lowest bits of b, the highest first
--     bits_of b      the reading that the byte b keeps
--     byte_of_sectors w      the byte that keeps the reading w
--     home_byte b    the byte that keeps the home reading of b's reading; `home` is that of rings, for readings of any length and shades
-- That bits_of and byte_of_sectors undo each other, and that nothing of the home reading is lost in its byte: proofs/Bits.
use Rattle.std.specs.Prelude.{ℕ, zero, suc, ◌+◌, ◌*◌, ◌/◌, ◌%◌, ◌^◌, List, [], ◌∷◌, length}
use Rattle.rings.specs.Home.{home}

unfoldable pub bits : ℕ → ℕ → List ℕ
bits zero b = []
bits (suc n) b = (b / 2 ^ n % 2) ∷ bits n b

abbrev pub bits_of : ℕ → List ℕ
bits_of b = bits 8 b

unfoldable pub byte_of_sectors : List ℕ → ℕ
byte_of_sectors [] = 0
byte_of_sectors (a ∷ w) = a * 2 ^ length w + byte_of_sectors w

unfoldable pub home_byte : ℕ → ℕ
home_byte b = byte_of_sectors (home (bits_of b))
