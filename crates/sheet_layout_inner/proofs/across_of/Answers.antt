-- `sheet_layout_inner::across_of` meets its contract.
use Rattle.words.proofs.Needs.{arith}
use Rattle.sheet_layout_inner.proofs.Bounds.{wide, cell-wide}
use Rattle.sheet_layout_inner.proofs.across_of.Goals as goal

pub overflow_mul-left : goal.overflow_mul-left
overflow_mul-left c =
    omega (arith, wide c.args.size c.args.columns c.requires.0)

pub overflow_sub-left : goal.overflow_sub-left
overflow_sub-left c =
    omega (arith, wide c.args.size c.args.columns c.requires.0)

pub overflow_mul-result : goal.overflow_mul-result
overflow_mul-result c =
    omega (arith, cell-wide c.args.size c.args.columns c.requires.0 c.args.j)

pub overflow_add-result : goal.overflow_add-result
overflow_add-result c =
    omega (arith, cell-wide c.args.size c.args.columns c.requires.0 c.args.j)

pub overflow_add-result-3 : goal.overflow_add-result-3
overflow_add-result-3 c =
    omega (arith, c.requires.0.narrow, cell-wide c.args.size c.args.columns c.requires.0 c.args.j)
