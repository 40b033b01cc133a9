-- `door_walks::rings_next_prenecklace` meets its contract.
use Rattle.door_walks.proofs.rings_next_prenecklace.Goals as goal

pub returns : goal.returns
returns c =
    record { answer = c.next_prenecklace.result; says = c.next_prenecklace.ensures; same = c.flat_outcome.ensures }
