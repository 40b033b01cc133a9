-- The refusals of a target set, in their order (02, 'g'): 1 Length, also where n is above 24; 2 Shades; 12 Too many, above 2 to the power 24, as in the listing
-- program; then 13 Set, place 0, where d is 0 or above n or the wanted number is 0 or above 32.
--     Settable n d want          13 passed
--     Askable n k d want         every check has passed
--     set_order n k d want        the order; `set-numbers`: by its numbers, as the client says it
--     SetCheckSays n k d want v     what the checks' answer v promises
-- 1, 2 and 12 are those of `limits`, in its order. That no two answers fit: proofs/Unique.
use Rattle.std.specs.Prelude.{ℕ, ◌≤◌, ◌≡◌, refl, [], ◌∷◌, Result, Ok, Err}
use Rattle.refusal.specs.declared.Refusal.{Refusal}
use Rattle.refusal.specs.declared.Refusal.TheVariants.{Length, Set}
use Rattle.refusal.specs.Order.{Checks, fact, ◌▸◌, Given, numbered}
use Rattle.limits_spec.specs.Limits.{most_listed, Listable, numbers_order}

-- a ring of a set has at most 24 sectors
abbrev pub most_sectors : ℕ
most_sectors = 24

-- the greatest power that is not Too many, as in the listing program
abbrev pub most_readings : ℕ
most_readings = most_listed

-- the distance is 1 to n, and the wanted number 1 to 32
pub record Settable (n d want : ℕ) : Type 0 where
  pub some-distance : 1 ≤ d
  pub most-distance : d ≤ n
  pub some-wanted : 1 ≤ want
  pub most-wanted : want ≤ 32

pub record Askable (n k d want : ℕ) : Type 0 where
  pub short : n ≤ most_sectors
  pub numbers : Listable most_readings k n
  pub settable : Settable n d want

-- the order 1, 2, 12, 13
abbrev pub set_order : ℕ → ℕ → ℕ → ℕ → Checks
set_order n k d want = fact (n ≤ most_sectors) (Length 0) ▸ numbers_order most_readings k n ▸ fact (Settable n d want) Set

-- 1 twice, since the length has two checks: at most 24, and then that of `limits`
pub set-numbers : (n k d want : ℕ) → numbered (set_order n k d want) ≡ (1 ∷ 1 ∷ 2 ∷ 12 ∷ 13 ∷ [])
set-numbers n k d want = refl

abbrev pub SetCheckSays : ℕ → ℕ → ℕ → ℕ → Result Unit Refusal → Type 0
SetCheckSays n k d want (Ok _) = Askable n k d want
SetCheckSays n k d want (Err r) = Given (set_order n k d want) r
