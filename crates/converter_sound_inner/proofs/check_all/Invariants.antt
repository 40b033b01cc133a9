-- `converter_sound_inner::check_all` meets its contract. The loop's invariant: what is found from the present place on is found from 0 on.
use Rattle.words.proofs.Needs.{◌-◌, length}
use Rattle.converter_sound_inner.proofs.Going.{Going}
use Rattle.converter_sound_inner.proofs.check_all.Given as goal

abbrev pub invariant-loop-at : goal.invariant-loop-at
invariant-loop-at l = Going l.old l.at

abbrev pub decreases-loop-at : goal.decreases-loop-at
decreases-loop-at l = length l.old - l.at
