-- The greatest common divisor, and Euler's phi.
use Rattle.std.specs.Prelude.{ℕ, Bool, ◌&&◌, eqb}
use Rattle.words.specs.Search.{greatest}
use Rattle.words.specs.Readings.{bit}
use Rattle.how_many_number_spec.specs.Divisors.{sum_to, divides}

-- d divides a and b
unfoldable pub divides_both : ℕ → ℕ → ℕ → Bool
divides_both a b d = divides d a && divides d b

-- the greatest common divisor of a and b, which are at least 1
unfoldable pub gcd : ℕ → ℕ → ℕ
gcd a b = greatest b (divides_both a b)

-- phi: how many of the numbers 1 to m have no divisor in common with m but 1
unfoldable pub phi : ℕ → ℕ
phi m = sum_to m (λ i. bit (eqb (gcd i m) 1))
