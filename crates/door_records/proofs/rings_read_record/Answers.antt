-- `door_records::rings_read_record` meets its contract.
use Rattle.door_records.proofs.rings_read_record.Goals as goal

pub returns : goal.returns
returns c = record { answer = c.read_record.result; says = c.read_record.ensures; same = c.flat_entry.ensures }
