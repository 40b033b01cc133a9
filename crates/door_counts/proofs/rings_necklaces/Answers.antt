-- `door_counts::rings_necklaces` meets its contract.
use Rattle.door_counts.proofs.rings_necklaces.Goals as goal

pub returns : goal.returns
returns c = record { answer = c.necklaces.result; says = c.necklaces.ensures; same = c.number.ensures }
