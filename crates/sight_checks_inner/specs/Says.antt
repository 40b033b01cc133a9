-- What the check of the sectors of a reading r and of the rings rs promises: each is below k, or the refusal is of the first that is not.
use Rattle.std.specs.Prelude.{ℕ, ◌<◌, List, ◌++◌, length, get_or, Result}
use Rattle.refusal.specs.declared.Refusal.{Refusal}
use Rattle.refusal.specs.declared.Refusal.TheVariants.{Sector}
use Rattle.refusal.specs.Order.{each, CheckSays}

abbrev pub SectorsSay : List ℕ → List ℕ → ℕ → Result Unit Refusal → Type 0
SectorsSay r rs k v = CheckSays (each (length (r ++ rs)) (λ i. get_or (r ++ rs) i 0 < k) Sector) v
