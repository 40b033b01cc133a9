-- `text_lines_inner::place_two` meets its contract: each piece stands behind the one before it, and there is room for all.
use Rattle.words.proofs.Needs.{arith}
use Rattle.text_spec.specs.Text.{two_numbers}
use Rattle.text_spec.proofs.Put.{length_two, placed-length, placed-append}
use Rattle.text_lines_inner.proofs.place_two.Goals as goal

pub place_text-a-requires : goal.place_text-a-requires
place_text-a-requires c = omega (arith, c.requires, length_two c.args.head.now c.args.x c.args.middle.now c.args.y)

pub place_decimal-b-requires : goal.place_decimal-b-requires
place_decimal-b-requires c =
    let l = length_two c.args.head.now c.args.x c.args.middle.now c.args.y in
    omega (arith, c.requires, l, placed-length _ _ _ _ _ c.place_text-a.ensures)

pub place_text-c-requires : goal.place_text-c-requires
place_text-c-requires c =
    let l = length_two c.args.head.now c.args.x c.args.middle.now c.args.y in
    omega (arith, c.requires, l, placed-length _ _ _ _ _ c.place_text-a.ensures, placed-length _ _ _ _ _ c.place_decimal-b.ensures)

pub place_decimal-d-requires : goal.place_decimal-d-requires
place_decimal-d-requires c =
    let l = length_two c.args.head.now c.args.x c.args.middle.now c.args.y in
    let p1 = placed-length _ _ _ _ _ c.place_text-a.ensures in
    let p2 = placed-length _ _ _ _ _ c.place_decimal-b.ensures in
    omega (arith, c.requires, l, p1, p2, placed-length _ _ _ _ _ c.place_text-c.ensures)

pub place_text-requires : goal.place_text-requires
place_text-requires c =
    let l = length_two c.args.head.now c.args.x c.args.middle.now c.args.y in
    let p1 = placed-length _ _ _ _ _ c.place_text-a.ensures in
    let p2 = placed-length _ _ _ _ _ c.place_decimal-b.ensures in
    let p3 = placed-length _ _ _ _ _ c.place_text-c.ensures in
    omega (arith, c.requires, l, p1, p2, p3, placed-length _ _ _ _ _ c.place_decimal-d.ensures)

-- the whole, by its pieces
pub shape_of-buf : goal.shape_of-buf
shape_of-buf c =
    let t2 = placed-append _ _ _ _ _ _ _ _ c.place_text-a.ensures c.place_decimal-b.ensures in
    let t4 = placed-append _ _ _ _ _ _ _ _ (placed-append _ _ _ _ _ _ _ _ t2 c.place_text-c.ensures) c.place_decimal-d.ensures in
    placed-length _ _ _ _ _ (placed-append _ _ _ _ _ _ _ _ t4 c.place_text.ensures)

pub returns : goal.returns
unfolding two_numbers
returns c =
    let t2 = placed-append _ _ _ _ _ _ _ _ c.place_text-a.ensures c.place_decimal-b.ensures in
    let t4 = placed-append _ _ _ _ _ _ _ _ (placed-append _ _ _ _ _ _ _ _ t2 c.place_text-c.ensures) c.place_decimal-d.ensures in
    placed-append _ _ _ _ _ _ _ _ t4 c.place_text.ensures
