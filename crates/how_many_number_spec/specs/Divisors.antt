-- Sums over the numbers 1 to n, and over the divisors of n.
--     sum_to n f           f 1 + f 2 + .. + f n
--     divides d n         d divides n
--     over_divisors n f    the sum of f d over the divisors d of n, 1 and n among them; n is at least 1
use Rattle.std.specs.Prelude.{ℕ, zero, suc, ◌+◌, ◌%◌, Bool, true, false, eqb}

-- x where the test passes, 0 where it fails
abbrev pub when : Bool → ℕ → ℕ
when true x = x
when false x = 0

-- the sum of f over the numbers 1 to n
unfoldable pub sum_to : ℕ → (ℕ → ℕ) → ℕ
sum_to zero f = 0
sum_to (suc n) f = sum_to n f + f (suc n)

-- d divides n
unfoldable pub divides : ℕ → ℕ → Bool
divides d n = eqb (n % d) 0

-- the sum of f over the divisors of n
unfoldable pub over_divisors : ℕ → (ℕ → ℕ) → ℕ
over_divisors n f = sum_to n (λ d. when (divides d n) (f d))
