-- `door_walks::rings_next_bracelet` meets its contract.
use Rattle.door_walks.proofs.rings_next_bracelet.Goals as goal

pub returns : goal.returns
returns c =
    record { answer = c.next_bracelet.result; says = c.next_bracelet.ensures; same = c.flat_arrival.ensures }
