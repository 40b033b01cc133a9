-- `sheet_lines_inner::line_end` meets its contract.
use Rattle.words.proofs.Needs.{arith, ap, ◌∙◌, length-drop, length}
use Rattle.sheet_lines_inner.proofs.Lines.{line_at, rest-is}
use Rattle.sheet_lines_inner.proofs.line_end.Goals as goal

pub overflow_add-result : goal.overflow_add-result
overflow_add-result c =
    omega (arith, c.piece_end.ensures.within, ap length (rest-is c.args.s.now c.args.at) ∙ length-drop c.args.at c.args.s.now)

pub returns : goal.returns
returns c = line_at c.args.s.now c.args.at _ c.requires c.piece_end.ensures
