-- `door_readings::rings_even_handed` meets its contract.
use Rattle.door_readings.proofs.rings_even_handed.Goals as goal

pub returns : goal.returns
returns c = record { answer = c.even_handed.result; says = c.even_handed.ensures; same = c.told.ensures }
