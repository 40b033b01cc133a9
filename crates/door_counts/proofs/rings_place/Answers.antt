-- `door_counts::rings_place` meets its contract.
use Rattle.door_counts.proofs.rings_place.Goals as goal

pub returns : goal.returns
returns c = record { answer = c.place_of.result; says = c.place_of.ensures; same = c.number.ensures }
