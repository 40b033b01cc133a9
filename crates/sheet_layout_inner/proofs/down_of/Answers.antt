-- `sheet_layout_inner::down_of` meets its contract.
use Rattle.words.proofs.Needs.{arith}
use Rattle.sheet_layout_inner.proofs.Bounds.{cell-down}
use Rattle.sheet_layout_inner.proofs.down_of.Goals as goal

pub overflow_mul-result : goal.overflow_mul-result
overflow_mul-result c =
    omega (arith, cell-down c.args.size c.args.columns c.requires.0 c.args.j c.requires.1)

pub overflow_add-result : goal.overflow_add-result
overflow_add-result c =
    omega (arith, cell-down c.args.size c.args.columns c.requires.0 c.args.j c.requires.1)

pub overflow_add-result-3 : goal.overflow_add-result-3
overflow_add-result-3 c =
    omega (arith, c.requires.0.narrow, cell-down c.args.size c.args.columns c.requires.0 c.args.j c.requires.1)
