-- What the calls tell has bits of its own.
--     numbered-read   each value that `sector_shade` tells is a number or an infinity
use Rattle.words.proofs.Plain.{ℕ}
use lib.Ieee.{Float}
use Rattle.std.specs.Prelude.{Ok}
use Rattle.density_spec.specs.{declared.Card.Card, declared.Sector.Sector}
use Rattle.density_spec.specs.declared.Sector.TheVariants.{Shade, Outside, NotANumber}
use Rattle.density_spec.specs.Says.{SectorSays}
use Rattle.desk_sector_inner.specs.Says.{OwnBits}

pub numbered-read : (x : Float) (k : ℕ) (c : Card) (a : Sector) → SectorSays x k c (Ok a) → OwnBits a
numbered-read x k c (Shade s) p = tt
numbered-read x k c (Outside y) p = rw p.1.1 p.1.0.0
numbered-read x k c NotANumber p = tt
