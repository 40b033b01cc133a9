-- Answers whose value has bits of its own: what is not a number has many patterns, and is told by name.
--     OwnBits a     a value that the answer a tells is a number or an infinity
use Rattle.std.specs.Prelude.{◌≡◌, false}
use Rattle.std.specs.Float.Ieee.{ne}
use Rattle.density_spec.specs.declared.Sector.{Sector}
use Rattle.density_spec.specs.declared.Sector.TheVariants.{Shade, Outside, NotANumber}

abbrev pub OwnBits : Sector → Type 0
OwnBits (Shade s) = Unit {0}
OwnBits (Outside x) = ne x x ≡ false
OwnBits NotANumber = Unit {0}
