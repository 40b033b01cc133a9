-- `files_write_byte_inner::take_byte` meets its contract.
use Rattle.words.proofs.Needs.{arith, refl, length-set}
use Rattle.stream_spec.proofs.Taking.{byte-kept, byte-passed}
use Rattle.stream_spec.specs.Blocks.{ends}
use Rattle.files_text_inner.specs.Room.{record_room}
use Rattle.files_write_spec.specs.RingLines.{LineWrites}
use Rattle.files_write_byte_inner.proofs.Ends.{one_ended, none-ended}
use Rattle.files_write_byte_inner.proofs.take_byte.Goals as goal

pub returns-in-Ok : goal.returns-in-Ok
returns-in-Ok c =
    (omega arith, ends c.if-b-eq10.true refl (rw c.in-Ok.is at c.place_line.ensures), omega (arith, one_ended c.args.b c.if-b-eq10.true))

pub returns-in-Err : goal.returns-in-Err
returns-in-Err c =
    let h = rw c.in-Err.is at c.place_line.ensures in (c.if-b-eq10.true, h.0, refl)

pub returns-then-len-line : goal.returns-then-len-line
returns-then-len-line c = (
  simp length-set (omega (arith, c.if-len-line.true)),
  rw c.requires.line_len at (byte-kept (LineWrites c.args.kind) record_room c.args.line.now c.args.lined.len c.args.lined.at c.args.b c.args.buf.now c.if-b-eq10.false c.if-len-line.true),
  omega (arith, none-ended c.args.b c.if-b-eq10.false),
)

pub returns : goal.returns
returns c = (
  c.requires.len_in_bounds,
  rw c.requires.line_len at (byte-passed (LineWrites c.args.kind) record_room c.args.line.now c.args.lined.len c.args.lined.at c.args.b c.args.buf.now c.if-b-eq10.false
      c.requires.len_in_bounds c.if-len-line.false),
  omega (arith, none-ended c.args.b c.if-b-eq10.false),
)
