-- What looking at the class in a walk's record answers. It serves the code alone: the record's checks are `walk_spec`, specs/Record.
use Rattle.std.specs.Prelude.{ℕ, ◌≡◌, true, false, List, Result, Ok, Err}
use Rattle.rings.specs.declared.Class.{Class}
use Rattle.rings.specs.Class.{look_at}
use Rattle.refusal.specs.declared.Refusal.{Refusal}
use Rattle.refusal.specs.declared.Refusal.TheVariants.{OffWalk}
use Rattle.walk_spec.specs.Record.{on_walk}

-- the ring v is on the walk; or it is not, with the sector to look at
abbrev pub LookedAt : List ℕ → Class → Result Unit Refusal → Type 0
LookedAt v c (Ok _) = on_walk v c ≡ true
LookedAt v c (Err r) = (on_walk v c ≡ false) × (r ≡ OffWalk (look_at v))
