-- `sheet_layout_inner::per_page` meets its contract.
use Rattle.words.proofs.Needs.{arith, refl}
use Rattle.sheet_spec.proofs.Rows.{per-some}
use Rattle.sheet_layout_inner.proofs.Bounds.{per-most}
use Rattle.sheet_layout_inner.proofs.per_page.Goals as goal

pub overflow_mul-result : goal.overflow_mul-result
overflow_mul-result c =
    omega (arith, per-most c.args.size c.args.columns c.requires)

pub returns : goal.returns
returns c =
    (refl, per-some c.args.size c.args.columns c.requires, per-most c.args.size c.args.columns c.requires)
