-- `door_records::rings_convert` meets its contract.
use Rattle.door_records.proofs.rings_convert.Goals as goal

pub returns : goal.returns
returns c = record { answer = c.convert.result; says = c.convert.ensures; same = c.done.ensures }
