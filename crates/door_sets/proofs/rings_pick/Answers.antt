-- `door_sets::rings_pick` meets its contract.
use Rattle.door_sets.proofs.rings_pick.Goals as goal

pub returns : goal.returns
returns c = record { answer = c.lay_by.result; says = c.lay_by.ensures; same = c.flat_laid.ensures }
