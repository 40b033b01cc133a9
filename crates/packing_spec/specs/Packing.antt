-- The packed stored form (02, request k): the sectors one behind the other, b bits each, the first in the highest bits, as whole bytes; the unused low bits of
-- the last byte are 0. A byte is itself a part of 8 bits, so both directions are said with two words: parts are joined to one number, and a number is cut into parts.
--     BitsFit b w              each part of w is below 2 to the power b
--     Bytes c               each of c is a byte
--     as_one b w             the parts w, b bits each, as one number: the first in the highest bits
--     parts_of b n x         the number x as n parts of b bits: the highest bits first
--     packed_length b n      how many bytes n sectors of b bits take
--     spare b n             how many low bits of the last byte they leave unused
--     packed b w            the sectors w, b bits each, as bytes
--     unpacked b n c        the n sectors of b bits that the bytes c hold
--     clear_padding b n c    the unused low bits of the last byte are 0
--     byte_of b i            which byte holds the first bit of sector i
--     bit_at b x m           the bit m of a part x of b bits: 0 is its highest
-- That packing and unpacking undo each other, for every width: `packing_laws`, proofs/Packing. That each bit lies where it should: Places there.
use Rattle.std.specs.Prelude.{ℕ, zero, suc, ◌+◌, ◌-◌, ◌*◌, ◌/◌, ◌%◌, ◌^◌, ◌<◌, Bool, List, [], ◌∷◌, eqb, length, get_or}

-- each part takes b bits
abbrev pub BitsFit : ℕ → List ℕ → Type 0
BitsFit b w = (i : ℕ) → i < length w → get_or w i 0 < 2 ^ b

abbrev pub Bytes : List ℕ → Type 0
Bytes c = BitsFit 8 c

-- the first part stands above the bits of all that follow
unfoldable pub as_one : ℕ → List ℕ → ℕ
as_one b [] = 0
as_one b (x ∷ w) = x * 2 ^ (b * length w) + as_one b w

-- what stands above the bits of the n parts that follow, and then those
unfoldable pub parts_of : ℕ → ℕ → ℕ → List ℕ
parts_of b zero x = []
parts_of b (suc n) x = (x / 2 ^ (b * n)) ∷ parts_of b n (x % 2 ^ (b * n))

-- b * n bits, eight to a byte, a begun byte counted whole
unfoldable pub packed_length : ℕ → ℕ → ℕ
packed_length b n = (b * n + 7) / 8

unfoldable pub spare : ℕ → ℕ → ℕ
spare b n = 8 * packed_length b n - b * n

-- the sectors as one number, with 0 in the unused bits behind it, as bytes
unfoldable pub packed : ℕ → List ℕ → List ℕ
packed b w = parts_of 8 (packed_length b (length w)) (as_one b w * 2 ^ spare b (length w))

-- the bytes as one number, without the unused bits behind it, as sectors
unfoldable pub unpacked : ℕ → ℕ → List ℕ → List ℕ
unpacked b n c = parts_of b n (as_one 8 c / 2 ^ spare b n)

unfoldable pub clear_padding : ℕ → ℕ → List ℕ → Bool
clear_padding b n c = eqb (get_or c (packed_length b n - 1) 0 % 2 ^ spare b n) 0

-- b * i bits stand before it, eight to a byte
unfoldable pub byte_of : ℕ → ℕ → ℕ
byte_of b i = b * i / 8

unfoldable pub bit_at : ℕ → ℕ → ℕ → ℕ
bit_at b x m = x / 2 ^ (b - 1 - m) % 2
