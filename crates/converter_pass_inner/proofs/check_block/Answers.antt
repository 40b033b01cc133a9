-- `converter_pass_inner::check_block` meets its contract.
use Rattle.words.proofs.Needs.{arith}
use Rattle.converter_pass_inner.proofs.Blocks.{place-room, check-gone}
use Rattle.converter_pass_inner.proofs.check_block.Goals as goal

pub overflow_add-result : goal.overflow_add-result
overflow_add-result c = omega (arith, place-room c.args.block.now c.args.last _ c.in-Err.ensures, c.place.ensures, c.requires)

pub returns-in-Ok : goal.returns-in-Ok
returns-in-Ok c = rw c.turn_by.ensures (check-gone c.args.at c.args.block.now c.args.block.now _ c.args.last c.in-Ok.ensures)
