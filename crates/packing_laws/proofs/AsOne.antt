-- Parts joined to one number and cut from it again, for every width b of a part (`packing_spec`, specs/Packing).
--     length-parts, parts-fit    n parts, each of b bits
--     as-one-lt                  n parts of b bits are a number of b * n bits
--     parts-of-one               parts of b bits are kept by their number
--     one-of-parts               and the number by its parts
--     as-one-snoc                one more part behind
use Rattle.words.proofs.Plain.{ℕ, zero, suc, ◌+◌, ◌*◌, ◌%◌, ◌^◌, ◌<◌, arith, ◌≡◌, refl, ap, sym, ◌∙◌, List, [], ◌∷◌, ◌++◌, length, length-append}
use native.Mathlib.Nat.{mod-lt, mul-zero, mul-suc, mul_comm, mul_assoc, add-mul}
use lib.Pow.{pow_pos, pow-add, split, high, low, shr_lt}
use lib.Arith.{digits_lt}
use Rattle.packing_spec.specs.Packing.{BitsFit, as_one, parts_of}

-- one part more is b bits more
pow_more : (b n : ℕ) → 2 ^ (b * suc n) ≡ 2 ^ b * 2 ^ (b * n)
pow_more b n = let e : b * suc n ≡ b + b * n = mul-suc b n ∙ omega arith in rw e (pow-add 2 b (b * n))

pub length-parts : (b n x : ℕ) → length (parts_of b n x) ≡ n
unfolding parts_of
length-parts b zero x = refl
length-parts b (suc n) x = ap suc (length-parts b n (x % 2 ^ (b * n)))

pub parts-fit : (b n x : ℕ) → x < 2 ^ (b * n) → BitsFit b (parts_of b n x)
unfolding parts_of
parts-fit b zero x h i l = absurd (omega arith)
parts-fit b (suc n) x h zero l =
    let e : b * suc n ≡ b + b * n = mul-suc b n ∙ omega arith in shr_lt b (b * n) (rw e at h)
parts-fit b (suc n) x h (suc i) l = parts-fit b n (x % 2 ^ (b * n)) (mod-lt x (pow_pos (b * n))) i (omega arith)

pub as-one-lt : (b : ℕ) (w : List ℕ) → BitsFit b w → as_one b w < 2 ^ (b * length w)
unfolding as_one
as-one-lt b [] h = pow_pos (b * 0)
as-one-lt b (x ∷ w) h = rw (pow_more b (length w)) (digits_lt (h 0 (omega arith)) (as-one-lt b w (λ i l. h (suc i) (omega arith))))

pub parts-of-one : (b : ℕ) (w : List ℕ) → BitsFit b w → parts_of b (length w) (as_one b w) ≡ w
unfolding parts_of as_one
parts-of-one b [] h = refl
parts-of-one b (x ∷ w) h =
    let rest : BitsFit b w = λ i l. h (suc i) (omega arith) in
    let l = as-one-lt b w rest in
    rw (high x (b * length w) l, low x (b * length w) l, parts-of-one b w rest)

pub one-of-parts : (b n x : ℕ) → x < 2 ^ (b * n) → as_one b (parts_of b n x) ≡ x
unfolding parts_of as_one
one-of-parts b zero x h = let l : x < 1 = rw (mul-zero b) at h in omega arith
one-of-parts b (suc n) x h =
    rw (length-parts b n (x % 2 ^ (b * n)), one-of-parts b n (x % 2 ^ (b * n)) (mod-lt x (pow_pos (b * n)))) (split x (b * n))

pub as-one-snoc : (b : ℕ) (w : List ℕ) (a : ℕ) → as_one b (w ++ (a ∷ [])) ≡ as_one b w * 2 ^ b + a
unfolding as_one
as-one-snoc b [] a = rw (mul-zero b) (omega arith)
as-one-snoc b (x ∷ w) a =
    let e : length (w ++ (a ∷ [])) ≡ suc (length w) = length-append w (a ∷ []) ∙ omega arith in
    let p : x * (2 ^ b * 2 ^ (b * length w)) ≡ x * 2 ^ (b * length w) * 2 ^ b = rw (mul_comm (2 ^ b) (2 ^ (b * length w))) (sym (mul_assoc x _ _)) in
    rw (e, pow_more b (length w), as-one-snoc b w a, p, add-mul (x * 2 ^ (b * length w)) (as_one b w) (2 ^ b)) (omega arith)
