-- `walk_reading_checks_inner::check_step` meets its contract.
use Rattle.refusal.proofs.Handed.{handed_on}
use Rattle.walk_reading_checks_inner.proofs.Checking.{more-step, step-off, step-on}
use Rattle.walk_reading_checks_inner.proofs.check_step.Goals as goal

pub returns-in_err-check_room : goal.returns-in_err-check_room
returns-in_err-check_room c = rw (handed_on _ c.from_residual.ensures.1) (more-step c.args.reading.now c.args.k c.args.room _ c.in_err-check_room.ensures)

pub returns-in-Loose : goal.returns-in-Loose
returns-in-Loose c = step-off c.args.reading.now c.args.k c.args.room _ c.in_ok-check_room.ensures c.class_of.ensures _ c.in-Loose.is

pub returns : goal.returns
returns c = step-on c.args.reading.now c.args.k c.args.room _ c.in_ok-check_room.ensures c.class_of.ensures c.in_default.not-Loose
