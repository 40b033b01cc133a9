-- `files_write_program_inner::take_block` meets its contract.
use Rattle.words.proofs.Needs.{arith, refl, ap, not-true}
use Rattle.std.specs.Prelude.{Err}
use Rattle.files_write_program_inner.specs.Says.{gone, bad, unwritten}
use Rattle.files_write_program_inner.proofs.Turns.{handed-second}
use Rattle.files_write_program_inner.proofs.take_block.Goals as goal

pub slice_bounds-hand_on-end : goal.slice_bounds-hand_on-end
slice_bounds-hand_on-end c = omega (arith, c.in-Ok.ensures.1.inside, c.out-1.given)

pub returns-then-not-hand_on : goal.returns-then-not-hand_on
returns-then-not-hand_on c =
    unwritten (handed-second c.args.time c.hand_on.result c.hand_on.ensures (not-true c.hand_on.result c.if-not-hand_on.true-raw)) refl

pub returns-in-Err : goal.returns-in-Err
returns-in-Err c = bad c.in-Err.bad c.in-Err.ensures (ap Err c.refused.ensures)

pub returns-else-not-hand_on : goal.returns-else-not-hand_on
returns-else-not-hand_on c = gone c.in-Ok.lined c.in-Ok.ensures refl
