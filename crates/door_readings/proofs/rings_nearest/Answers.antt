-- `door_readings::rings_nearest` meets its contract.
use Rattle.door_readings.proofs.rings_nearest.Goals as goal

pub returns : goal.returns
returns c = record { answer = c.nearest.result; says = c.nearest.ensures; same = c.flat_closest.ensures }
