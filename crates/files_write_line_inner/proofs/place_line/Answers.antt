-- `files_write_line_inner::place_line` meets its contract: what was answered of what stands behind the number of shades.
use Rattle.files_write_line_inner.proofs.Spelling.{line-spelt}
use Rattle.files_write_line_inner.proofs.place_line.Goals as goal

pub returns : goal.returns
returns c =
    line-spelt c.args.kind c.args.line.now c.args.buf.now c.args.at c.in-Some.k c.in-Some.e c.in-Some.ensures c.if-line-gt4095.false c.write_spelt.result _ c.write_spelt.ensures
