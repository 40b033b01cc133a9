-- `home::bring_home` meets its contract: what the check answers, or else the turn by the shift.
use Rattle.words.proofs.Needs.{arith, ◌∙◌}
use Rattle.home.proofs.Answers.{shift_fits, turned-home}
use Rattle.home.proofs.bring_home.Goals as goal

pub write_turn-requires : goal.write_turn-requires
write_turn-requires c = omega (arith, shift_fits _ _ (omega (arith, (rw c.in-Ok.is at c.check_room.ensures))) c.least_shift-shift.ensures, (rw c.in-Ok.is at c.check_room.ensures))

pub returns-in-Ok : goal.returns-in-Ok
returns-in-Ok c = record {
  passed = rw c.in-Ok.is at c.check_room.ensures;
  ring = c.write_turn.ensures ∙ turned-home _ _ c.least_shift-shift.ensures;
  turns = c.least_shift-shift.ensures;
  repeats = c.period_of-period.ensures;
}
