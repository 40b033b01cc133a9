-- Bytes and their readings.
--     bits-reading         the reading of a byte has 8 sectors of 2 shades
--     byte-of-bits         a byte is kept by its reading
--     bits-of-byte         a reading of 2 shades is kept by its byte
--     home-kept            so the table's byte is the home reading, with nothing lost
--     home-d0              the home reading of D0 is 0D (hexadecimal)
use Rattle.words.proofs.Plain.{ℕ, zero, suc, ◌+◌, ◌*◌, ◌/◌, ◌%◌, ◌^◌, ◌<◌, ◌≤◌, arith, dec_lt, ◌≡◌, refl, ap, ◌∙◌, List, [], ◌∷◌, ◌++◌, eqb, length, get_or, take}
use Rattle.words.proofs.Plain.{drop, length-append, length-take, length-drop, List·get_d-eq-default, get_or-take, get_or-drop, eqb-true}
use native.Mathlib.Nat.{mod-lt, mul-add-div_right, mul-add-mod_self_right, pow-succ', mul_assoc, one-le-pow, div-eq_of_lt, mod-eq_of_lt, mul-le-mul_right, add-zero}
use Rattle.words.specs.{Readings.Reading, Search.all_below, Turn.turn}
use Rattle.words.proofs.Search.{all-at}
use Rattle.rings.specs.{Home.home, Home.shift, Open.open-all}
use Rattle.stock_spec.specs.Stock.{bits, bits_of, byte_of_sectors, home_byte}

-- each sector, and what is read past the end, is 0 or 1
abbrev pub Bitwise : List ℕ → Type 0
Bitwise w = (i : ℕ) → get_or w i 0 < 2

-- ---- the reading of a byte

-- n bits are n sectors
pub length-bits : (n b : ℕ) → length (bits n b) ≡ n
unfolding bits
length-bits zero b = refl
length-bits (suc n) b = ap suc (length-bits n b)

-- each is 0 or 1
pub bits-bitwise : (n b : ℕ) → Bitwise (bits n b)
unfolding bits
bits-bitwise zero b i = omega arith
bits-bitwise (suc n) b zero = mod-lt (b / 2 ^ n) (omega arith)
bits-bitwise (suc n) b (suc i) = bits-bitwise n b i

-- the reading of a byte has 8 sectors of 2 shades
pub bits-reading : (b : ℕ) → Reading 8 2 (bits_of b)
bits-reading b = record { long = length-bits 8 b; shades = λ i h. bits-bitwise 8 b i }

-- a byte is kept by its reading: one test at each of the 256
pub byte-of-bits : (b : ℕ) → b < 256 → byte_of_sectors (bits_of b) ≡ b
unfolding bits byte_of_sectors all_below
byte-of-bits b h = eqb-true (byte_of_sectors (bits_of b)) b (all-at 256 (λ i. eqb (byte_of_sectors (bits_of i)) i) refl b h)

-- ---- the byte of a reading

-- higher bits do not matter to the lower ones
bits-high : (n x b : ℕ) → bits n (x * 2 ^ n + b) ≡ bits n b
unfolding bits
bits-high zero x b = refl
bits-high (suc n) x b =
    let e : x * 2 ^ suc n ≡ x * 2 * 2 ^ n = rw (pow-succ' 2 n, mul_assoc x 2 (2 ^ n)) in
    let d : (x * 2 * 2 ^ n + b) / 2 ^ n % 2 ≡ b / 2 ^ n % 2 =
    ap (λ (q : ℕ). q % 2) (mul-add-div_right (one-le-pow n 2 (omega arith)) (x * 2) b) ∙ mul-add-mod_self_right x 2 (b / 2 ^ n) in
    rw (e, d, bits-high n (x * 2) b)

-- w fits into as many bits as it has sectors
byte-lt : (w : List ℕ) → Bitwise w → byte_of_sectors w < 2 ^ length w
unfolding byte_of_sectors
byte-lt [] h = omega arith
byte-lt (a ∷ w) h =
    let l : a ≤ 1 = omega (arith, h 0) in
    rw (pow-succ' 2 (length w)) (omega (arith, mul-le-mul_right (2 ^ length w) l, byte-lt w (λ i. h (suc i))))

-- a reading of 2 shades is kept by its byte
pub bits-of-byte : (w : List ℕ) → Bitwise w → bits (length w) (byte_of_sectors w) ≡ w
unfolding bits byte_of_sectors
bits-of-byte [] h = refl
bits-of-byte (a ∷ w) h =
    let l = byte-lt w (λ i. h (suc i)) in
    let d : (a * 2 ^ length w + byte_of_sectors w) / 2 ^ length w ≡ a =
    mul-add-div_right (one-le-pow (length w) 2 (omega arith)) a (byte_of_sectors w) ∙ ap (λ (q : ℕ). a + q) (div-eq_of_lt l) ∙ add-zero a in
    rw (d, mod-eq_of_lt (h 0), bits-high (length w) a (byte_of_sectors w), bits-of-byte w (λ i. h (suc i)))

-- ---- the home reading

-- two such lists end to end are one
append-bitwise : (v w : List ℕ) → Bitwise v → Bitwise w → Bitwise (v ++ w)
append-bitwise [] w p q i = q i
append-bitwise (a ∷ v) w p q zero = p zero
append-bitwise (a ∷ v) w p q (suc i) = append-bitwise v w (λ j. p (suc j)) q i

-- and so is a turn
turn-bitwise : (i : ℕ) (w : List ℕ) → Bitwise w → Bitwise (turn i w)
unfolding turn
turn-bitwise i w p =
    append-bitwise (drop i w) (take i w) (λ j. rw (get_or-drop i w j 0) (p (i + j))) (λ j. front j)
  where
    front : (j : ℕ) → get_or (take i w) j 0 < 2
    front j = elim (dec_lt j i) [ yes h ↦ rw (get_or-take i w j 0 h) (p j) | no h ↦ rw (List·get_d-eq-default (take i w) 0 {n = j} (simp length-take (omega arith))) (omega arith) ]

-- a turn is as long
length-turn : (i : ℕ) (w : List ℕ) → length (turn i w) ≡ length w
unfolding turn
length-turn i w = simp (length-append, length-drop, length-take) (omega arith)

-- the byte of the home reading keeps the home reading
pub home-kept : (b : ℕ) → bits_of (home_byte b) ≡ home (bits_of b)
unfolding home_byte home
home-kept b =
    let w = turn (shift (bits_of b)) (bits_of b) in
    let l : length w ≡ 8 = length-turn (shift (bits_of b)) (bits_of b) ∙ length-bits 8 b in
    rw l at (bits-of-byte w (turn-bitwise (shift (bits_of b)) (bits_of b) (bits-bitwise 8 b)))

-- the home reading of D0 is 0D (hexadecimal)
pub home-d0 : home_byte 0xD0 ≡ 0x0D
unfolding home_byte bits byte_of_sectors open-all
home-d0 = refl
