-- `door_walks::rings_first_ring` meets its contract.
use Rattle.door_walks.proofs.rings_first_ring.Goals as goal

pub returns : goal.returns
returns c = record { answer = c.first_ring.result; says = c.first_ring.ensures; same = c.done.ensures }
