-- `text_lines_inner::place_refused` meets its contract: each piece stands behind the one before it, and there is room for all.
use Rattle.words.proofs.Needs.{arith}
use Rattle.text_spec.specs.Text.{refused_line}
use Rattle.text_spec.proofs.Put.{length-refused, placed-length, placed-append}
use Rattle.text_lines_inner.proofs.place_refused.Goals as goal

pub place_text-a-requires : goal.place_text-a-requires
place_text-a-requires c =
    omega (arith, c.requires, length-refused c.args.x)

pub place_decimal-b-requires : goal.place_decimal-b-requires
place_decimal-b-requires c =
    omega (arith, c.requires, length-refused c.args.x, placed-length _ _ _ _ _ c.place_text-a.ensures)

pub place_text-requires : goal.place_text-requires
place_text-requires c =
    omega (arith, c.requires, length-refused c.args.x, placed-length _ _ _ _ _ c.place_text-a.ensures, placed-length _ _ _ _ _ c.place_decimal-b.ensures)

pub shape_of-buf : goal.shape_of-buf
shape_of-buf c =
    placed-length _ _ _ _ _ (placed-append _ _ _ _ _ _ _ _ (placed-append _ _ _ _ _ _ _ _ c.place_text-a.ensures c.place_decimal-b.ensures) c.place_text.ensures)

pub returns : goal.returns
unfolding refused_line
returns c =
    (placed-append _ _ _ _ _ _ _ _ (placed-append _ _ _ _ _ _ _ _ c.place_text-a.ensures c.place_decimal-b.ensures) c.place_text.ensures)
