-- `door_density::rings_sector_shade` meets its contract.
use Rattle.door_density.proofs.rings_sector_shade.Goals as goal

pub returns : goal.returns
returns c = record { answer = c.sector_shade.result; says = c.sector_shade.ensures; same = c.flat_sector_read.ensures }
