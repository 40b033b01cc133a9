-- Primes, and Moebius's mu: 0 where the square of some number from 2 on divides m; otherwise 1 where the number of primes that divide m is even,
-- and -1 where it is odd. There are no negative numbers here: `mu_plus m` says that mu is 1, `mu_minus m` that it is -1.
use Rattle.std.specs.Prelude.{ℕ, suc, ◌*◌, ◌%◌, Bool, not, ◌&&◌, eqb, ltb}
use Rattle.words.specs.Search.{all_below}
use Rattle.words.specs.Readings.{bit}
use Rattle.how_many_number_spec.specs.Divisors.{sum_to, divides}

-- d is at least 2 and divides p
unfoldable pub divisor_from_two : ℕ → ℕ → Bool
divisor_from_two p d = ltb 1 d && divides d p

-- a prime: at least 2, and no number from 2 to p - 1 divides it
unfoldable pub prime : ℕ → Bool
prime p = ltb 1 p && all_below p (λ d. not (divisor_from_two p d))

-- d is at least 2 and its square divides m
unfoldable pub square_from_two : ℕ → ℕ → Bool
square_from_two m d = ltb 1 d && divides (d * d) m

-- no square of a number from 2 on divides m, which is at least 1
unfoldable pub square_free : ℕ → Bool
square_free m = all_below (suc m) (λ d. not (square_from_two m d))

-- how many primes divide m
unfoldable pub primes_of : ℕ → ℕ
primes_of m = sum_to m (λ p. bit (prime p && divides p m))

-- mu of m is 1
unfoldable pub mu_plus : ℕ → Bool
mu_plus m = square_free m && eqb (primes_of m % 2) 0

-- mu of m is -1
unfoldable pub mu_minus : ℕ → Bool
mu_minus m = square_free m && eqb (primes_of m % 2) 1
