-- `door_readings::rings_same` meets its contract.
use Rattle.door_readings.proofs.rings_same.Goals as goal

pub returns : goal.returns
returns c = record { answer = c.same_ring.result; says = c.same_ring.ensures; same = c.told.ensures }
