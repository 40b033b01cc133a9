-- `door_walks::rings_next_lyndon` meets its contract.
use Rattle.door_walks.proofs.rings_next_lyndon.Goals as goal

pub returns : goal.returns
returns c = record { answer = c.next_lyndon.result; says = c.next_lyndon.ensures; same = c.flat_outcome.ensures }
