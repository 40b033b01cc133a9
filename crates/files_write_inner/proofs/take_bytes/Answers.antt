-- `files_write_inner::take_bytes` meets its contract. The loop's invariant: the records of the lines that end in the first bytes stand in the buffer, the line under way
-- is held, and so many lines have ended.
use Rattle.words.proofs.Needs.{arith, refl, ◌∙◌, take, length-take}
use Rattle.stream_spec.proofs.Taking.{taking-none, taking-room, taking-on, taking-end}
use Rattle.refusal.proofs.{Handed.handed_on}
use Rattle.files_write_spec.proofs.Cut.{writes-tells}
use Rattle.files_write_inner.proofs.Lining.{count_none, count-on, count-few, count-end, block_refused}
use Rattle.files_write_inner.proofs.take_bytes.Goals as goal

pub loop-b-init : goal.loop-b-init
loop-b-init c = (
  c.requires.line_len,
  omega (arith, c.requires),
  taking-none _ _ _ (take c.args.len c.args.line.now) c.args.block.now c.args.buf.now (simp length-take (omega (arith, c.requires))),
  refl,
  count_none _ c.args.block.now c.args.lines,
  omega arith,
)

pub take_byte-requires : goal.take_byte-requires
take_byte-requires c =
    record {
      line_len = c.loop-b.invariant.0;
      len_in_bounds = omega (arith, c.loop-b.invariant.0, c.loop-b.invariant.1);
      record_room_in_bounds = taking-room _ _ _ (writes-tells c.args.kind) _ _ _ _ _ _ _ c.loop-b.invariant.2 c.loop-b-test.true c.requires.record_room_in_bounds;
      lines_lt_most_ended = omega (arith, c.loop-b.invariant.5, c.loop-b-test.true, c.requires.block_bound);
    }

pub loop-b-preserved : goal.loop-b-preserved
loop-b-preserved c =
    let e = c.in_ok-lined.ensures in
    let h = taking-room _ _ _ (writes-tells c.args.kind) _ _ _ _ _ _ _ c.loop-b.invariant.2 c.loop-b-test.true c.requires.record_room_in_bounds in
    let n = taking-on _ _ _ (writes-tells c.args.kind) _ _ _ _ _ _ _ c.loop-b.invariant.2 c.loop-b-test.true h _ _ _ e.1 in
    let f = c.take_byte.auto.line ∙ c.loop-b.invariant.0 in (
      f,
      omega (arith, f, e.0),
      n,
      c.take_byte.auto.buf ∙ c.loop-b.invariant.3,
      count-on _ c.args.block.now c.loop-b.b-index c.loop-b-test.true c.args.lines c.loop-b.lined.lines _ c.loop-b.invariant.4 e.2,
      count-few _ c.loop-b.lined.lines _ c.loop-b.b-index c.args.lines e.2 c.loop-b.invariant.5,
    )

pub returns-in_err-lined : goal.returns-in_err-lined
returns-in_err-lined c =
    rw (handed_on _ c.from_residual.ensures.1)
    (block_refused c.args.kind _ c.args.block.now _ c.loop-b.b-index _ _ _ c.loop-b.invariant.2 c.loop-b-test.true c.args.lines c.loop-b.lined.lines c.loop-b.invariant.4 _ _ c.in_err-lined.ensures)

pub returns : goal.returns
returns c = (
  omega (arith, c.loop-b.invariant.0, c.loop-b.invariant.1),
  taking-end _ _ _ (writes-tells c.args.kind) _ _ _ _ _ _ _ c.loop-b.invariant.2 (omega arith) c.loop-b-test.false c.requires.record_room_in_bounds,
  count-end _ c.args.block.now c.loop-b.b-index c.loop-b-test.false c.args.lines _ c.loop-b.invariant.4,
)
