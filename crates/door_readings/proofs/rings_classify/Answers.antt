-- `door_readings::rings_classify` meets its contract.
use Rattle.door_readings.proofs.rings_classify.Goals as goal

pub returns : goal.returns
returns c = record { answer = c.classify.result; says = c.classify.ensures; same = c.flat_classified.ensures }
