-- The definitions stay shut. `unfolding open-numbers` opens them all at once, for the places that compute values: proofs/Cases here and in `how_many_laws`.
use Rattle.std.specs.Prelude.{ℕ}
use Rattle.words.specs.Search.{all_below, greatest, tab}
use Rattle.how_many_number_spec.specs.Divisors.{sum_to, divides, over_divisors}
use Rattle.how_many_number_spec.specs.Phi.{divides_both, gcd, phi}
use Rattle.how_many_number_spec.specs.Mu.{divisor_from_two, prime, square_from_two, square_free, primes_of, mu_plus, mu_minus}

unfoldable pub open-numbers : ℕ
unfolding all_below greatest tab sum_to divides over_divisors divides_both gcd phi divisor_from_two prime square_from_two square_free primes_of mu_plus mu_minus
open-numbers = 0
