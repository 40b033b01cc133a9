-- The fact about packing (02, request k), once, for every width b: packing and unpacking undo each other.
--     length-packed, packed-bytes        as many bytes as the packed length, each a byte
--     length-unpacked, unpacked-fits     n sectors, each of b bits
--     clear-low, low_clear, no-padding   the padding is clear exactly where the unused low bits of the one number are 0, and where there are none
--     packed-clear                       packing leaves it clear
--     unpacked-packed                    unpacking what was packed gives the sectors
--     packed-unpacked                    packing what was unpacked gives the bytes, where the padding is clear
--     packed-holds, holds-packed         so bytes are the packed sectors exactly where they hold those sectors and their padding is clear
--     packed-injective                   no two readings of one length are packed to the same bytes
--     packed-is, unpacked-is             for the code: parts that make the right number are the packed ones, the unpacked ones
use Rattle.words.proofs.Plain.{ℕ, zero, suc, ◌+◌, ◌-◌, ◌*◌, ◌/◌, ◌%◌, ◌^◌, ◌<◌, ◌≤◌, arith, ◌≡◌, refl, ap, sym, ◌∙◌, true, List, [], ◌∷◌, ◌++◌, length, get_or}
use Rattle.words.proofs.Plain.{take, take-suc, take_all, eqb-true, eq-eqb}
use native.Mathlib.Nat.{mul_assoc, mul-mod_left, mod-one, mul-add-mod_self_right}
use lib.Pow.{pow-add, split, high, shr_lt, shl_lt, shl-shr}
use Rattle.packing_spec.specs.Packing.{BitsFit, Bytes, as_one, packed_length, spare, packed, unpacked, clear_padding}
use Rattle.packing_laws.proofs.AsOne.{length-parts, parts-fit, as-one-lt, parts-of-one, one-of-parts, as-one-snoc}
use Rattle.packing_laws.proofs.Lengths.{bits-bytes, spare-lt}

-- ---- what packing makes

-- the number of the packed bytes fits into them
packed_lt : (b : ℕ) (w : List ℕ) → BitsFit b w → as_one b w * 2 ^ spare b (length w) < 2 ^ (8 * packed_length b (length w))
packed_lt b w h = rw (sym (bits-bytes b (length w))) (shl_lt (b * length w) (spare b (length w)) (as-one-lt b w h))

pub length-packed : (b : ℕ) (w : List ℕ) → length (packed b w) ≡ packed_length b (length w)
unfolding packed
length-packed b w = length-parts 8 (packed_length b (length w)) (as_one b w * 2 ^ spare b (length w))

pub packed-bytes : (b : ℕ) (w : List ℕ) → BitsFit b w → Bytes (packed b w)
unfolding packed
packed-bytes b w h = parts-fit 8 (packed_length b (length w)) (as_one b w * 2 ^ spare b (length w)) (packed_lt b w h)

-- its number is that of the sectors, with zeros behind
pub one-packed : (b : ℕ) (w : List ℕ) → BitsFit b w → as_one 8 (packed b w) ≡ as_one b w * 2 ^ spare b (length w)
unfolding packed
one-packed b w h = one-of-parts 8 (packed_length b (length w)) (as_one b w * 2 ^ spare b (length w)) (packed_lt b w h)

-- and no other bytes have it
pub packed-is : (b : ℕ) (w c : List ℕ) → length c ≡ packed_length b (length w) → Bytes c → as_one 8 c ≡ as_one b w * 2 ^ spare b (length w) → c ≡ packed b w
unfolding packed
packed-is b w c l h e = rw (sym l, sym e) (sym (parts-of-one 8 c h))

-- ---- what unpacking makes

-- the number of the unpacked sectors fits into them
unpacked-lt : (b n : ℕ) (c : List ℕ) → length c ≡ packed_length b n → Bytes c → as_one 8 c / 2 ^ spare b n < 2 ^ (b * n)
unpacked-lt b n c l h =
    let j : as_one 8 c < 2 ^ (b * n + spare b n) = rw (bits-bytes b n, sym l) (as-one-lt 8 c h) in
    shr_lt (b * n) (spare b n) j

pub length-unpacked : (b n : ℕ) (c : List ℕ) → length (unpacked b n c) ≡ n
unfolding unpacked
length-unpacked b n c = length-parts b n (as_one 8 c / 2 ^ spare b n)

pub unpacked-fits : (b n : ℕ) (c : List ℕ) → length c ≡ packed_length b n → Bytes c → BitsFit b (unpacked b n c)
unfolding unpacked
unpacked-fits b n c l h = parts-fit b n (as_one 8 c / 2 ^ spare b n) (unpacked-lt b n c l h)

pub unpacked-is : (b n r : ℕ) (c w : List ℕ) → length w ≡ n → BitsFit b w → as_one b w * 2 ^ spare b n + r ≡ as_one 8 c → r < 2 ^ spare b n → w ≡ unpacked b n c
unfolding unpacked
unpacked-is b n r c w l h e z = rw (sym e, high (as_one b w) (spare b n) z, sym l) (sym (parts-of-one b w h))

-- ---- the padding

-- the low bits of the one number are those of its last part
as-one-low : (b s : ℕ) (w : List ℕ) (m : ℕ) → length w ≡ suc m → s ≤ b → as_one b w % 2 ^ s ≡ get_or w m 0 % 2 ^ s
as-one-low b s w m l h =
    let e : b ≡ (b - s) + s = omega arith in
    let t : w ≡ take m w ++ (get_or w m 0 ∷ []) = sym (take_all (suc m) w (omega arith)) ∙ take-suc w m 0 (omega arith) in
    let j : as_one b w ≡ as_one b (take m w) * 2 ^ (b - s) * 2 ^ s + get_or w m 0 =
    ap (as_one b) t ∙ as-one-snoc b (take m w) (get_or w m 0)
    ∙ ap (λ (q : ℕ). q + get_or w m 0) (ap (λ (q : ℕ). as_one b (take m w) * 2 ^ q) e ∙ ap (λ (q : ℕ). as_one b (take m w) * q) (pow-add 2 (b - s) s) ∙
    sym (mul_assoc (as_one b (take m w)) (2 ^ (b - s)) (2 ^ s))) in
    ap (λ (q : ℕ). q % 2 ^ s) j ∙ mul-add-mod_self_right (as_one b (take m w) * 2 ^ (b - s)) (2 ^ s) (get_or w m 0)

-- so the unused bits of the last byte are the unused ones of all
last-low : (b n : ℕ) (c : List ℕ) → length c ≡ packed_length b n → as_one 8 c % 2 ^ spare b n ≡ get_or c (packed_length b n - 1) 0 % 2 ^ spare b n
last-low b n c l = go (packed_length b n) refl
  where
    go : (p : ℕ) → packed_length b n ≡ p → as_one 8 c % 2 ^ spare b n ≡ get_or c (packed_length b n - 1) 0 % 2 ^ spare b n
    go zero e =
        let z : spare b n ≡ 0 = omega (arith, bits-bytes b n) in
        rw (z, mod-one (as_one 8 c), mod-one (get_or c (packed_length b n - 1) 0))
    go (suc m) e = let z : packed_length b n - 1 ≡ m = omega arith in rw z (as-one-low 8 (spare b n) c m (l ∙ e) (omega (arith, spare-lt b n)))

pub clear-low : (b n : ℕ) (c : List ℕ) → length c ≡ packed_length b n → clear_padding b n c ≡ true → as_one 8 c % 2 ^ spare b n ≡ 0
unfolding clear_padding
clear-low b n c l h = last-low b n c l ∙ eqb-true _ _ h

pub low_clear : (b n : ℕ) (c : List ℕ) → length c ≡ packed_length b n → as_one 8 c % 2 ^ spare b n ≡ 0 → clear_padding b n c ≡ true
unfolding clear_padding
low_clear b n c l h = eq-eqb _ _ (sym (last-low b n c l) ∙ h)

-- where the sectors fill the bytes there is none
pub no-padding : (b n : ℕ) (c : List ℕ) → b * n % 8 ≡ 0 → clear_padding b n c ≡ true
unfolding clear_padding
no-padding b n c h =
    let z : spare b n ≡ 0 = omega (arith, bits-bytes b n, spare-lt b n) in
    eq-eqb _ _ (ap (λ (q : ℕ). get_or c (packed_length b n - 1) 0 % 2 ^ q) z ∙ mod-one (get_or c (packed_length b n - 1) 0))

pub packed-clear : (b : ℕ) (w : List ℕ) → BitsFit b w → clear_padding b (length w) (packed b w) ≡ true
packed-clear b w h =
    low_clear b (length w) (packed b w) (length-packed b w) (ap (λ (q : ℕ). q % 2 ^ spare b (length w)) (one-packed b w h) ∙ mul-mod_left (as_one b w) (2 ^ spare b (length w)))

-- ---- the two directions

pub unpacked-packed : (b : ℕ) (w : List ℕ) → BitsFit b w → unpacked b (length w) (packed b w) ≡ w
unfolding unpacked
unpacked-packed b w h = rw (one-packed b w h, shl-shr (as_one b w) (spare b (length w))) (parts-of-one b w h)

pub packed-unpacked : (b n : ℕ) (c : List ℕ) → length c ≡ packed_length b n → Bytes c → clear_padding b n c ≡ true → packed b (unpacked b n c) ≡ c
unfolding unpacked
packed-unpacked b n c l h z =
    let e : length (unpacked b n c) ≡ n = length-unpacked b n c in
    let j : as_one b (unpacked b n c) ≡ as_one 8 c / 2 ^ spare b n = one-of-parts b n (as_one 8 c / 2 ^ spare b n) (unpacked-lt b n c l h) in
    sym (packed-is b (unpacked b n c) c (rw e l) h (rw (e, j) (omega (arith, split (as_one 8 c) (spare b n), clear-low b n c l z))))

-- ---- as its users ask for it

-- bytes that are the packed sectors hold them, and their padding is clear
pub packed-holds : (b : ℕ) (w c : List ℕ) → BitsFit b w → c ≡ packed b w → (unpacked b (length w) c ≡ w) × (clear_padding b (length w) c ≡ true)
packed-holds b w c h e = rw e (unpacked-packed b w h, packed-clear b w h)

-- bytes that hold the sectors, with clear padding, are the packed sectors
pub holds-packed : (b n : ℕ) (w c : List ℕ) → length c ≡ packed_length b n → Bytes c → unpacked b n c ≡ w → clear_padding b n c ≡ true → c ≡ packed b w
holds-packed b n w c l h e z = sym (packed-unpacked b n c l h z) ∙ ap (packed b) e

pub packed-injective : (b : ℕ) (v w : List ℕ) → BitsFit b v → BitsFit b w → length v ≡ length w → packed b v ≡ packed b w → v ≡ w
packed-injective b v w f g l e = sym (unpacked-packed b v f) ∙ rw (e, l) (unpacked-packed b w g)
