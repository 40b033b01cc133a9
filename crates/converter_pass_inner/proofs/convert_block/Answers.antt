-- `converter_pass_inner::convert_block` meets its contract.
use Rattle.converter_pass_inner.proofs.Blocks.{write-gone}
use Rattle.converter_pass_inner.proofs.convert_block.Goals as goal

pub returns : goal.returns
returns c = rw c.turn_by.ensures (write-gone c.args.at c.args.block.now c.args.new.now _ _ c.args.last c.in-Ok.ensures)
