-- `door_sets::rings_pick_guarded` meets its contract.
use Rattle.door_sets.proofs.rings_pick_guarded.Goals as goal

pub returns : goal.returns
returns c = record { answer = c.lay_by.result; says = c.lay_by.ensures; same = c.flat_laid.ensures }
