-- `converter_blocks::check` meets its contract: what is left over of a block that is refused decides.
use Rattle.converter_blocks.proofs.Blocks.{block-left}
use Rattle.converter_blocks.proofs.check.Goals as goal

pub returns-in-Err : goal.returns-in-Err
returns-in-Err c = block-left c.args.block.now c.args.last _ c.left_over.result c.in-Err.ensures c.left_over.ensures
