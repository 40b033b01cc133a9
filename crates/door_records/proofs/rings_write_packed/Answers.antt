-- `door_records::rings_write_packed` meets its contract.
use Rattle.door_records.proofs.rings_write_packed.Goals as goal

pub returns : goal.returns
returns c = record { answer = c.write_record.result; says = c.write_record.ensures; same = c.number.ensures }
