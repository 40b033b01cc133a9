-- `door_readings::rings_home` meets its contract.
use Rattle.door_readings.proofs.rings_home.Goals as goal

pub returns : goal.returns
returns c = record { answer = c.bring_home.result; says = c.bring_home.ensures; same = c.flat_homed.ensures }
