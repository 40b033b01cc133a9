-- `report_answers_inner::place_counts` meets its contract: each piece stands behind the one before it, and there is room for all.
use Rattle.words.proofs.Needs.{arith}
use Rattle.text_spec.proofs.Put.{placed-length, placed-append}
use Rattle.report_spec.specs.Lines.{counts_line}
use Rattle.report_answers_inner.proofs.Placing.{length-counts}
use Rattle.report_answers_inner.proofs.place_counts.Goals as goal

pub place_decimal-a-requires : goal.place_decimal-a-requires
place_decimal-a-requires c = omega (arith, c.requires, length-counts c.args.x c.args.y)

pub place_text-b-requires : goal.place_text-b-requires
place_text-b-requires c =
    omega (arith, c.requires, length-counts c.args.x c.args.y, placed-length _ _ _ _ _ c.place_decimal-a.ensures)

pub place_decimal-c-requires : goal.place_decimal-c-requires
place_decimal-c-requires c =
    let l = length-counts c.args.x c.args.y in
    omega (arith, c.requires, l, placed-length _ _ _ _ _ c.place_decimal-a.ensures, placed-length _ _ _ _ _ c.place_text-b.ensures)

pub place_text-requires : goal.place_text-requires
place_text-requires c =
    let l = length-counts c.args.x c.args.y in
    let p1 = placed-length _ _ _ _ _ c.place_decimal-a.ensures in
    omega (arith, c.requires, l, p1, placed-length _ _ _ _ _ c.place_text-b.ensures, placed-length _ _ _ _ _ c.place_decimal-c.ensures)

-- the whole, by its pieces
pub shape_of-buf : goal.shape_of-buf
shape_of-buf c =
    let t3 = placed-append _ _ _ _ _ _ _ _ (placed-append _ _ _ _ _ _ _ _ c.place_decimal-a.ensures c.place_text-b.ensures) c.place_decimal-c.ensures in
    placed-length _ _ _ _ _ (placed-append _ _ _ _ _ _ _ _ t3 c.place_text.ensures)

pub returns : goal.returns
unfolding counts_line
returns c =
    let t3 = placed-append _ _ _ _ _ _ _ _ (placed-append _ _ _ _ _ _ _ _ c.place_decimal-a.ensures c.place_text-b.ensures) c.place_decimal-c.ensures in
    placed-append _ _ _ _ _ _ _ _ t3 c.place_text.ensures
