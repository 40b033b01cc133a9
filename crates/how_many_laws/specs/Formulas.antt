-- How many rings there are, by the divisor formulas (001, equation 1; 02, request f), for n sectors and k shades.
--     necklace_sum        the sum of phi d * k ^ (n / d) over the divisors d of n
--     necklace_formula    a n-th part of it: the necklaces
--     plus_sum, minus_sum    the sum of mu d * k ^ (n / d) over the divisors d of n is the first without the second: mu is 1, -1 or 0
--     lyndon_formula      a n-th part of it: the Lyndon words
-- That they are the numbers of rings by definition, for every n and k from 1 on, and that the divisions leave nothing over: proofs/Formulas.
use Rattle.std.specs.Prelude.{ℕ, ◌-◌, ◌*◌, ◌/◌, ◌^◌}
use Rattle.words.specs.Readings.{bit}
use Rattle.how_many_number_spec.specs.Divisors.{over_divisors}
use Rattle.how_many_number_spec.specs.Phi.{phi}
use Rattle.how_many_number_spec.specs.Mu.{mu_plus, mu_minus}

-- the sum of 001, equation 1
unfoldable pub necklace_sum : ℕ → ℕ → ℕ
necklace_sum n k = over_divisors n (λ d. phi d * k ^ (n / d))

-- how many necklaces there are, by 001, equation 1
unfoldable pub necklace_formula : ℕ → ℕ → ℕ
necklace_formula n k = necklace_sum n k / n

-- the powers that Moebius's sum adds: those at the d where mu is 1
unfoldable pub plus_sum : ℕ → ℕ → ℕ
plus_sum n k = over_divisors n (λ d. bit (mu_plus d) * k ^ (n / d))

-- the powers that it takes away: those at the d where mu is -1
unfoldable pub minus_sum : ℕ → ℕ → ℕ
minus_sum n k = over_divisors n (λ d. bit (mu_minus d) * k ^ (n / d))

-- how many Lyndon words there are, by Moebius's sum
unfoldable pub lyndon_formula : ℕ → ℕ → ℕ
lyndon_formula n k = (plus_sum n k - minus_sum n k) / n
