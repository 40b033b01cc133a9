-- How a record lies in a catalogue (01, 'Catalogue records'; 02, j and k): two bytes of a mark, one each for n and k, and behind them the sectors, in the form that
-- the mark tells. t is the part of a catalogue that begins where the record does.
--     MarkBegins t y                   t begins with the mark 52 y (hexadecimal)
--     second_byte x, Marked t x     the known marks: 52 46 is a front ring, a byte a sector, 52 50 a front ring, packed
--     kind_by_mark t                     the kind that a known mark tells, by its second byte
--     MarkedBack t                 the retired mark: 52 42 was a ring seen from the back
-- The two forms, for n sectors of k shades:
--     body_length x n k             how many bytes hold them
--     stored x k v, shown x n k b  the bytes that hold the sectors v, and the sectors that the bytes b hold
--     byte_at x k i                 which of the bytes holds the first bit of the sector i, both counted from 0
--     is_clear x n k b              the bits that hold no sector are 0
-- A record:
--     n_of t, k_of t                 what stands behind the mark
--     body_of x t, stored_ring x t       the bytes behind the head, in a record of kind x, and the sectors that they hold
--     sectors_of t                  the sectors, where they stand there a byte each
--     bytes x n k v                a record of kind x: its mark, n, k and the bytes v behind the head
use Rattle.std.specs.Prelude.{ℕ, ◌≡◌, Bool, true, false, List, ◌∷◌, eqb, get_or, take, drop}
use Rattle.packing_spec.specs.Width.{width}
use Rattle.packing_spec.specs.Packing.{packed_length, packed, unpacked, clear_padding, byte_of}
use Rattle.record_spec.specs.declared.Kind.{Kind}
use Rattle.record_spec.specs.declared.Kind.TheVariants.{Front, Packed}

-- t begins with a mark of this second byte
abbrev pub MarkBegins : List ℕ → ℕ → Type 0
MarkBegins t y = (get_or t 0 0 ≡ 0x52) × (get_or t 1 0 ≡ y)

-- the second byte of the mark of this kind
abbrev pub second_byte : Kind → ℕ
second_byte Front = 0x46
second_byte Packed = 0x50

-- t begins with the mark of this kind
abbrev pub Marked : List ℕ → Kind → Type 0
Marked t x = MarkBegins t (second_byte x)

-- the kind that a known mark tells
unfoldable pub kind_by_mark : List ℕ → Kind
kind_by_mark t = elim (eqb (get_or t 1 0) (second_byte Packed)) [ true ↦ Packed | false ↦ Front ]

-- t begins with the mark that is retired
abbrev pub MarkedBack : List ℕ → Type 0
MarkedBack t = MarkBegins t 0x42

-- ---- the two forms

-- how many bytes hold n sectors of k shades
abbrev pub body_length : Kind → ℕ → ℕ → ℕ
body_length Front n k = n
body_length Packed n k = packed_length (width k) n

-- the bytes that hold these sectors of k shades
abbrev pub stored : Kind → ℕ → List ℕ → List ℕ
stored Front k v = v
stored Packed k v = packed (width k) v

-- the n sectors of k shades that these bytes hold
abbrev pub shown : Kind → ℕ → ℕ → List ℕ → List ℕ
shown Front n k b = b
shown Packed n k b = unpacked (width k) n b

-- the byte that holds the first bit of the sector i
abbrev pub byte_at : Kind → ℕ → ℕ → ℕ
byte_at Front k i = i
byte_at Packed k i = byte_of (width k) i

-- the bits that hold no sector are 0; where a sector is a byte there are none
abbrev pub is_clear : Kind → ℕ → ℕ → List ℕ → Bool
is_clear Front n k b = true
is_clear Packed n k b = clear_padding (width k) n b

-- ---- a record

-- the number of sectors
abbrev pub n_of : List ℕ → ℕ
n_of t = get_or t 2 0

-- the number of shades
abbrev pub k_of : List ℕ → ℕ
k_of t = get_or t 3 0

-- the bytes behind the head
abbrev pub body_of : Kind → List ℕ → List ℕ
body_of x t = take (body_length x (n_of t) (k_of t)) (drop 4 t)

-- the sectors that they hold
abbrev pub stored_ring : Kind → List ℕ → List ℕ
stored_ring x t = shown x (n_of t) (k_of t) (body_of x t)

-- the sectors, a byte each
abbrev pub sectors_of : List ℕ → List ℕ
sectors_of t = stored_ring Front t

-- a mark, n, k, and what stands behind the head
abbrev pub bytes : Kind → ℕ → ℕ → List ℕ → List ℕ
bytes x n k v = 0x52 ∷ (second_byte x ∷ (n ∷ (k ∷ v)))
