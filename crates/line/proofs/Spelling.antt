-- Reading a number of one to three digits. `Spelling s x i`: the first i characters of s are digits, and x is what they spell.
--     spelling-on, spelling-small, spelling-end                     the loop over the digits
--     too_short, too_long, zero-first, no_digit                     what is no number of one to three digits
--     zero-text                                                     0 alone
use Rattle.words.proofs.Plain.{ℕ, ◌+◌, ◌-◌, ◌*◌, ◌^◌, ◌<◌, ◌≤◌, add-one, arith, dec_lt, ◌≡◌, sym, ap, ◌∙◌, List, [], ◌∷◌, length, get_or, drop}
use Rattle.words.proofs.{Plain.drop_of_length-le, Plain.drop-cons, Sequence.one_more}
use native.Mathlib.Nat.{pow-succ', pow-le-pow_right}
use Rattle.text_spec.specs.Decimal.{decimal}
use Rattle.text_spec.proofs.Digits.{value_from, numeral, decimal-short, decimal-digits, decimal-some, decimal-lead, length-decimal}

pub record Spelling (s : List ℕ) (x i : ℕ) : Type 0 where
  pub inside : i ≤ length s
  pub digits : (j : ℕ) → j < i → (48 ≤ get_or s j 0) × (get_or s j 0 ≤ 57)
  pub value : value_from 0 s ≡ value_from x (drop i s)
  pub small : x < 10 ^ i

module _ (s : List ℕ) (x i : ℕ) (p : Spelling s x i) where
  -- one digit more
  pub spelling-on : i < length s → 48 ≤ get_or s i 0 → get_or s i 0 ≤ 57 → Spelling s (x * 10 + (get_or s i 0 - 48)) (i + 1)
  unfolding value_from
  spelling-on h lo hi =
      rw (add-one i) (record {
        inside = omega arith;
        digits = one_more (λ j. (48 ≤ get_or s j 0) × (get_or s j 0 ≤ 57)) i p.digits (lo, hi);
        value = p.value ∙ ap (value_from x) (drop-cons s i 0 h);
        small = omega (arith, p.small, pow-succ' 10 i);
      })

  -- up to three digits spell a number below 1000
  pub spelling-small : i ≤ 3 → x < 1000
  spelling-small h = omega (arith, p.small, pow-le-pow_right {n = 10} (omega arith) h)

  -- at the end, s is the text of x
  pub spelling-end : length s ≤ i → 0 < length s → (get_or s 0 0 ≡ 48 → ⊥) → s ≡ decimal x
  unfolding value_from
  spelling-end h l z =
      let v : value_from 0 s ≡ x = p.value ∙ ap (value_from x) (drop_of_length-le s h) in
      sym (numeral s l (λ j q. p.digits j (omega arith)) z) ∙ ap decimal v

module _ (t : List ℕ) (x : ℕ) (e : t ≡ decimal x) where
  -- no characters are no number
  pub too_short : length t < 1 → ⊥
  too_short h = omega (arith, ap length e, decimal-some x)

  -- a number below 1000 has at most three digits
  pub too_long : x < 1000 → 3 < length t → ⊥
  too_long h l = omega (arith, ap length e, length-decimal 2 x h)

  -- 0 with more behind it is no number
  pub zero-first : get_or t 0 0 ≡ 48 → (length t ≡ 1 → ⊥) → ⊥
  zero-first z l =
      elim (dec_lt 0 x) [
        | yes h ↦ decimal-lead x h (rw e at z)
        | no h ↦ l (ap length e ∙ ap length (decimal-short x (omega arith)))
      ]

  -- a character that is no digit
  pub no_digit : (i : ℕ) → i < length t → (48 ≤ get_or t i 0 → get_or t i 0 ≤ 57 → ⊥) → ⊥
  no_digit i h f = let d = rw (sym e) at (decimal-digits x) in f (d i h).0 (d i h).1

-- 0 alone
pub zero-text : (t : List ℕ) → length t ≡ 1 → get_or t 0 0 ≡ 48 → t ≡ decimal 0
zero-text [] l z = absurd (omega arith)
zero-text (a ∷ []) l z = ap (λ (b : ℕ). b ∷ []) z ∙ sym (decimal-short 0 (omega arith))
zero-text (a ∷ b ∷ t) l z = absurd (omega arith)
