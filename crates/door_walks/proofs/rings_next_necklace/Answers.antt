-- `door_walks::rings_next_necklace` meets its contract.
use Rattle.door_walks.proofs.rings_next_necklace.Goals as goal

pub returns : goal.returns
returns c =
    record { answer = c.next_necklace.result; says = c.next_necklace.ensures; same = c.flat_outcome.ensures }
