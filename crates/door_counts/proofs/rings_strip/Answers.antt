-- `door_counts::rings_strip` meets its contract.
use Rattle.door_counts.proofs.rings_strip.Goals as goal

pub returns : goal.returns
returns c = record { answer = c.write_strip.result; says = c.write_strip.ensures; same = c.done.ensures }
