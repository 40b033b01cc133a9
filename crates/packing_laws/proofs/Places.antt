-- Where each bit lies: the form of the fact that a reader of bits would ask for.
--     one_bit        the bit m of the part i is the bit b * i + m, from the highest, of the one number
--     bit-packed     so it is that bit of the packed bytes: in the byte (b * i + m) / 8, at (b * i + m) % 8
--     first_bit      the first bit of the sector i lies in the byte `byte_of b i`
use Rattle.words.proofs.Plain.{ℕ, zero, suc, ◌+◌, ◌-◌, ◌*◌, ◌/◌, ◌%◌, ◌^◌, ◌<◌, arith, ◌≡◌, ap, sym, ◌∙◌, List, [], ◌∷◌, length, get_or}
use native.Mathlib.Nat.{mul-zero, mul-suc, mul_assoc, pow-suc, add-zero, mul-add-div_right, mul-add-mod_self_right}
use lib.Pow.{pow_pos, pow-add, high, shr-shr, shl-shr}
use Rattle.packing_spec.specs.Packing.{BitsFit, as_one, packed_length, spare, packed, bit_at, byte_of}
use Rattle.packing_laws.proofs.{AsOne.as-one-lt, Lengths.bits-bytes, Lengths.bits-within}
use Rattle.packing_laws.proofs.Packing.{length-packed, packed-bytes, one-packed}

-- a bit that lies below the first part
below-first : (x p r e y : ℕ) → p ≡ suc e + r → (x * 2 ^ p + y) / 2 ^ r % 2 ≡ y / 2 ^ r % 2
below-first x p r e y q =
    let d : x * 2 ^ p ≡ x * 2 ^ e * 2 * 2 ^ r =
    ap (λ (t : ℕ). x * 2 ^ t) q ∙ ap (λ (t : ℕ). x * t) (pow-add 2 (suc e) r)
    ∙ sym (mul_assoc x (2 ^ suc e) (2 ^ r)) ∙ ap (λ (t : ℕ). t * 2 ^ r) (ap (λ (t : ℕ). x * t) (pow-suc 2 e) ∙ sym (mul_assoc x (2 ^ e) 2)) in
    ap (λ (t : ℕ). (t + y) / 2 ^ r % 2) d ∙ ap (λ (t : ℕ). t % 2) (mul-add-div_right (pow_pos r) (x * 2 ^ e * 2) y)
    ∙ mul-add-mod_self_right (x * 2 ^ e) 2 (y / 2 ^ r)

-- r bits lie behind it
pub one_bit : (b : ℕ) (w : List ℕ) → BitsFit b w → (i m r : ℕ) → i < length w → m < b → b * i + m + 1 + r ≡ b * length w → bit_at b (get_or w i 0) m ≡ as_one b w / 2 ^ r % 2
unfolding bit_at as_one
one_bit b [] h i m r l k e = absurd (omega arith)
one_bit b (x ∷ w) h zero m r l k e =
    let p : r ≡ b * length w + (b - 1 - m) = omega (arith, mul-suc b (length w), mul-zero b) in
    let f : BitsFit b w = λ j g. h (suc j) (omega arith) in
    ap (λ (t : ℕ). t / 2 ^ (b - 1 - m) % 2) (sym (high x (b * length w) (as-one-lt b w f)))
    ∙ ap (λ (t : ℕ). t % 2) (shr-shr (x * 2 ^ (b * length w) + as_one b w) (b * length w) (b - 1 - m))
    ∙ ap (λ (t : ℕ). (x * 2 ^ (b * length w) + as_one b w) / 2 ^ t % 2) (sym p)
one_bit b (x ∷ w) h (suc i) m r l k e =
    let p : b * i + m + 1 + r ≡ b * length w = omega (arith, mul-suc b (length w), mul-suc b i) in
    one_bit b w (λ j g. h (suc j) (omega arith)) i m r (omega arith) k p ∙ sym (below-first x (b * length w) r (b * i + m) (as_one b w) (omega arith))

pub bit-packed : (b : ℕ) (w : List ℕ) → BitsFit b w → (i m : ℕ) → i < length w → m < b → bit_at b (get_or w i 0) m ≡ bit_at 8 (get_or (packed b w) ((b * i + m) / 8) 0) ((b * i + m) % 8)
bit-packed b w h i m l k =
    let n = length w in
    let d = bits-within b n i m l k in
    let s = spare b n in
    let r = b * n - (b * i + m + 1) in
    let g : length (packed b w) ≡ packed_length b n = length-packed b w in
    let y = bits-bytes b n in
    one_bit b w h i m r l k (omega arith)
    ∙ ap (λ (t : ℕ). t / 2 ^ r % 2) (sym (shl-shr (as_one b w) s))
    ∙ ap (λ (t : ℕ). t % 2) (shr-shr (as_one b w * 2 ^ s) s r)
    ∙ ap (λ (t : ℕ). t / 2 ^ (s + r) % 2) (sym (one-packed b w h))
    ∙ sym (one_bit 8 (packed b w) (packed-bytes b w h) ((b * i + m) / 8) ((b * i + m) % 8) (s + r) (omega arith) (omega arith) (omega arith))

pub first_bit : (b : ℕ) (w : List ℕ) → BitsFit b w → (i : ℕ) → i < length w → 0 < b → bit_at b (get_or w i 0) 0 ≡ bit_at 8 (get_or (packed b w) (byte_of b i) 0) (b * i % 8)
unfolding byte_of
first_bit b w h i l k = rw (add-zero (b * i)) at (bit-packed b w h i 0 l k)
