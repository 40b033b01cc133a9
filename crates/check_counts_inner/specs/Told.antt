-- What a test promises its caller.
--     Told b P    the answer b to the question whether P holds
use Rattle.std.specs.Prelude.{Bool, true, false}

-- yes: P holds; no: it does not
abbrev pub Told : Bool → Type 0 → Type 0
Told true P = P
Told false P = P → ⊥
