-- What the parts of filling a text promise.
--     NumberAt xs i r       r is the number at i, 0 where there is none
--     EndsAt q n len r      a ring of n sectors that begins at q ends at r, or the sectors end before it
use Rattle.std.specs.Prelude.{ℕ, ◌+◌, ◌≤◌, ◌≡◌, ◌⊎◌, List, get_or}

abbrev pub NumberAt : List ℕ → ℕ → ℕ → Type 0
NumberAt xs i r = r ≡ get_or xs i 0

abbrev pub EndsAt : ℕ → ℕ → ℕ → ℕ → Type 0
EndsAt q n len r = (q ≤ r) × (r ≤ len) × ((r ≡ q + n) ⊎ ((r ≡ len) × (len ≤ q + n)))
