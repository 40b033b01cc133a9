-- Whether k to the power n is above a limit. While p is k to the power i and within the limit, p times k is above it exactly where limit / k is below p.
use Rattle.words.proofs.Plain.{ℕ, zero, suc, ◌+◌, ◌*◌, ◌/◌, ◌^◌, ◌<◌, ◌≤◌, add-one, arith, ◌≡◌, refl, sym, ◌∙◌, true, false, ltb, lt-ltb, le-ltb}
use native.Mathlib.Nat.{pow-zero, pow-suc, pow-le-pow_right, div-lt_iff_lt-mul, le-div_iff_mul-le, one-le-pow, mul-zero, mul-one}

-- a power of 1 is 1
ones : (n : ℕ) → suc zero ^ n ≡ suc zero
ones zero = pow-zero (suc zero)
ones (suc n) = pow-suc (suc zero) n ∙ mul-one (suc zero ^ n) ∙ ones n

-- 0 and 1 are their own powers
own_power : (k n : ℕ) → k < 2 → (n ≡ 0 → ⊥) → k ^ n ≡ k
own_power k zero h z = absurd (z refl)
own_power zero (suc n) h z = pow-suc zero n ∙ mul-zero (zero ^ n)
own_power (suc zero) (suc n) h z = ones (suc n)
own_power (suc (suc k)) (suc n) h z = absurd (omega arith)

module _ (k n limit : ℕ) where
  -- no factor
  pub power-none : n ≡ 0 → ltb limit 1 ≡ ltb limit (k ^ n)
  power-none e = rw (e, pow-zero k)

  -- a base below 2
  pub power_small : k < 2 → (n ≡ 0 → ⊥) → ltb limit k ≡ ltb limit (k ^ n)
  power_small h z = rw (own_power k n h z)

  -- a power from 1 on is above the limit 0
  pub power_zero : 2 ≤ k → limit < 1 → true ≡ ltb limit (k ^ n)
  power_zero h l = sym (lt-ltb limit (k ^ n) (omega (arith, one-le-pow n k (omega arith))))

  module _ (i p : ℕ) (h : 2 ≤ k) (e : p ≡ k ^ i) where
    -- one factor more is above the limit, so the whole power is
    pub power-over : i < n → limit / k < p → true ≡ ltb limit (k ^ n)
    power-over l d =
        let a : limit < p * k = (div-lt_iff_lt-mul {k = k} (omega arith)).0 d in
        let b : k ^ suc i ≤ k ^ n = pow-le-pow_right {n = k} (omega arith) l in
        sym (lt-ltb limit (k ^ n) (omega (arith, a, b, rw (sym e) at (pow-suc k i))))

    -- one factor more stays within
    pub power-within : p ≤ limit / k → p * k ≤ limit
    power-within d = (le-div_iff_mul-le {k = k} (omega arith)).0 d

    pub power-on : p * k ≡ k ^ (i + 1)
    power-on = rw (add-one i, pow-suc k i, e)

    -- all factors stay within
    pub power-end : i ≤ n → n ≤ i → p ≤ limit → false ≡ ltb limit (k ^ n)
    power-end a b d = let q : i ≡ n = omega arith in sym (le-ltb limit (k ^ n) (rw (e, q) at d))
