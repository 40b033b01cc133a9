-- `door_walks::rings_next_ring` meets its contract.
use Rattle.door_walks.proofs.rings_next_ring.Goals as goal

pub returns : goal.returns
returns c = record { answer = c.next_ring.result; says = c.next_ring.ensures; same = c.flat_next.ensures }
