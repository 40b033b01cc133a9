-- `door_sight::rings_sight` meets its contract.
use Rattle.door_sight.proofs.rings_sight.Goals as goal

pub returns : goal.returns
returns c = record { answer = c.sight.result; says = c.sight.ensures; same = c.flat_sighting.ensures }
