-- `door_readings::rings_apart` meets its contract.
use Rattle.door_readings.proofs.rings_apart.Goals as goal

pub returns : goal.returns
returns c = record { answer = c.apart.result; says = c.apart.ensures; same = c.number.ensures }
