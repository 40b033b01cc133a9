-- `picture_print_inner::print_line` meets its contract.
use Rattle.picture_print_inner.proofs.Printing.{put-line}
use Rattle.picture_print_inner.proofs.print_line.Goals as goal

pub returns : goal.returns
returns c = put-line c.args.l.now c.in-Some.k c.in-Some.at (rw c.in-Some.is at c.head_of.ensures) _ _ _ c.print_words.ensures
