-- What deciding whether a listing can go on promises.
--     NecklaceOf w k         w is a necklace of k shades
--     TellsWhether b P      the answer b to whether P holds
use Rattle.std.specs.Prelude.{ℕ, ◌≡◌, Bool, true, false, List, length}
use Rattle.words.specs.Readings.{Sized, Shaded, Reading}
use Rattle.rings.specs.Necklace.{necklace}

pub record NecklaceOf (w : List ℕ) (k : ℕ) : Type 0 where
  pub sized : Sized (length w)
  pub shaded : Shaded k
  pub reading : Reading (length w) k w
  pub member : necklace w ≡ true

abbrev pub TellsWhether : Bool → Type 0 → Type 0
TellsWhether true P = P
TellsWhether false P = P → ⊥
