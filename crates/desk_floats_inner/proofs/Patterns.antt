-- Which patterns and floats are numbers, and the patterns of digits.
--     another-field, no-digits    a pattern with another exponent's field, or with no digits, is a number's or an infinity's
--     number-bits                 a float that equals itself has bits of its own
--     zero_by_zero                a division that makes what is not a number
--     not-a-number                every other is what is not a number
--     pattern-bytes               the pattern of digits by its four bytes
--     floats-more                 one float more
use Rattle.words.proofs.Plain.{ℕ, ◌+◌, ◌*◌, ◌%◌, ◌/◌, ◌<◌, arith, ◌≡◌, refl, ap, ◌∙◌, Bool, true, false, not, ◌&&◌, List, T, eqb, length, get_or, set}
use Rattle.words.proofs.Plain.{take, drop, get_or-take, get_or-drop, get_or-set_same, get_or-set_other, ne_eqb, eq-eqb}
use lib.Ieee.{Float, nan, inf, fin, binary32, is_nan, nan_bits, ne, of_bits, of_fields, odd, div}
use Rattle.words.proofs.Split.{clash, lt, eq, gt, tri}
use Rattle.desk_spec.specs.Floats.{pattern_of, float_of}
use Rattle.desk_floats_inner.specs.Says.{FloatsSay}

never : (b : Bool) → T (not (b && false))
never true = tt
never false = tt

pub another-field : (b : ℕ) → (b % 2147483648 / 8388608 ≡ 255 → ⊥) → T (not (nan_bits binary32 b))
unfolding nan_bits
another-field b h = rw (ne_eqb (b % 2147483648 / 8388608) 255 h) tt

pub no-digits : (b : ℕ) → b % 8388608 ≡ 0 → T (not (nan_bits binary32 b))
unfolding nan_bits
no-digits b h = rw (eq-eqb (b % 8388608) 0 h) (never (eqb (b % 2147483648 / 8388608) 255))

pub number-bits : (x : Float) → ne x x ≡ false → T (not (is_nan x))
unfolding is_nan ne
number-bits nan h = clash true refl h
number-bits (inf s) h = tt
number-bits (fin s m e) h = tt

-- what is not a number, made by a division
pub zero_by_zero : div binary32 (of_bits binary32 0) (of_bits binary32 0) ≡ nan
unfolding div of_bits of_fields odd
zero_by_zero = refl

pub not-a-number : (b : ℕ) → b % 2147483648 / 8388608 ≡ 255 → (b % 8388608 ≡ 0 → ⊥) → nan ≡ of_bits binary32 b
unfolding of_bits of_fields
not-a-number b h n = rw (h, ne_eqb (b % 8388608) 0 n) refl

-- ---- digits

digit_at : (s : List ℕ) (at i : ℕ) → i < 8 → get_or (take 8 (drop at s)) i 0 ≡ get_or s (at + i) 0
digit_at s at i h = get_or-take 8 (drop at s) i 0 h ∙ get_or-drop at s i 0

pub pattern-bytes : (s : List ℕ) (at a b c d : ℕ) → a ≡ get_or s at 0 * 16 + get_or s (at + 1) 0 → b ≡ get_or s (at + 2) 0 * 16 + get_or s (at + 2 + 1) 0 →
    c ≡ get_or s (at + 4) 0 * 16 + get_or s (at + 4 + 1) 0 → d ≡ get_or s (at + 6) 0 * 16 + get_or s (at + 6 + 1) 0 → ((a * 256 + b) * 256 + c) * 256 + d ≡ pattern_of (take 8 (drop at s))
unfolding pattern_of
pattern-bytes s at a b c d p q r t =
    let g : (i j : ℕ) → i ≡ j → get_or s i 0 ≡ get_or s j 0 = λ i j e. ap (λ (x : ℕ). get_or s x 0) e in
    let d0 = digit_at s at 0 (omega arith) ∙ g (at + 0) at (omega arith) in
    let d3 = digit_at s at 3 (omega arith) ∙ g (at + 3) (at + 2 + 1) (omega arith) in
    let d5 = digit_at s at 5 (omega arith) ∙ g (at + 5) (at + 4 + 1) (omega arith) in
    let d7 = digit_at s at 7 (omega arith) ∙ g (at + 7) (at + 6 + 1) (omega arith) in
    omega (arith, p, q, r, t, d0, digit_at s at 1 (omega arith), digit_at s at 2 (omega arith), d3, digit_at s at 4 (omega arith), d5, digit_at s at 6 (omega arith), d7)

-- one float more
pub floats-more : (s : List ℕ) (i : ℕ) (xs : List Float) (x : Float) → FloatsSay s i xs → i < length xs → x ≡ float_of (take 8 (drop (8 * i) s)) → FloatsSay s (i + 1) (set xs i x)
floats-more s i xs x p h e j l =
    elim (tri j i) [
      | lt k ↦ get_or-set_other xs i j x nan (λ q. omega arith) ∙ p j k
      | eq k ↦ rw k (get_or-set_same xs i x nan h ∙ e)
      | gt k ↦ absurd (omega arith)
    ]
