-- `converter_turn_inner::write_all` meets its contract. The loop's invariant: with what becomes of the records that are left, the whole is converted.
use Rattle.words.proofs.Needs.{◌-◌, length}
use Rattle.converter_turn_inner.proofs.Going.{Going}
use Rattle.converter_turn_inner.proofs.write_all.Given as goal

abbrev pub invariant-loop-at : goal.invariant-loop-at
invariant-loop-at l = Going l.old l.out l.at

abbrev pub decreases-loop-at : goal.decreases-loop-at
decreases-loop-at l = length l.old - l.at
