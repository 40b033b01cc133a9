-- `files_write_program_inner::take_end` meets its contract.
use Rattle.words.proofs.Needs.{arith, refl, ap, not-true}
use Rattle.std.specs.Prelude.{Err}
use Rattle.files_write_program_inner.specs.Says.{over, worse, unsaid}
use Rattle.files_write_program_inner.proofs.Turns.{handed-second}
use Rattle.files_write_program_inner.proofs.take_end.Goals as goal

pub slice_bounds-hand_on-end : goal.slice_bounds-hand_on-end
slice_bounds-hand_on-end c = omega (arith, c.in-Ok.ensures.0.inside, c.out-1.given)

pub returns-then-not-hand_on : goal.returns-then-not-hand_on
returns-then-not-hand_on c =
    unsaid (handed-second c.args.time c.hand_on.result c.hand_on.ensures (not-true c.hand_on.result c.if-not-hand_on.true-raw)) refl

pub returns-in-Err : goal.returns-in-Err
returns-in-Err c = worse c.in-Err.bad c.in-Err.ensures (ap Err c.refused.ensures)

pub returns-else-not-hand_on : goal.returns-else-not-hand_on
returns-else-not-hand_on c = over c.in-Ok.lined c.in-Ok.ensures refl
