-- What the sums over the divisors weigh their powers by (001, equation 1; 02, request f).
--     Small k n         n and k are a ring's numbers, and k ^ n is at most 2 to the power 32
--     weight_of w d      phi d; or 1 where mu d is 1, or 1 where mu d is -1, and 0 elsewhere
--     powers w k n d    that, times k ^ (n / d)
use Rattle.std.specs.Prelude.{ℕ, ◌*◌, ◌/◌, ◌^◌}
use Rattle.words.specs.Readings.{bit}
use Rattle.limits_spec.specs.Limits.{Listable}
use Rattle.how_many_number_spec.specs.Phi.{phi}
use Rattle.how_many_number_spec.specs.Mu.{mu_plus, mu_minus}
use Rattle.how_many_sums_inner.specs.declared.Weight.{Weight}
use Rattle.how_many_sums_inner.specs.declared.Weight.TheVariants.{Phi, Plus, Minus}

abbrev pub Small : ℕ → ℕ → Type 0
Small k n = Listable (2 ^ 32) k n

abbrev pub weight_of : Weight → ℕ → ℕ
weight_of Phi d = phi d
weight_of Plus d = bit (mu_plus d)
weight_of Minus d = bit (mu_minus d)

abbrev pub powers : Weight → ℕ → ℕ → ℕ → ℕ
powers w k n d = weight_of w d * k ^ (n / d)
