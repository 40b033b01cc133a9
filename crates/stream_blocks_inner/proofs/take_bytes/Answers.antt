-- `stream_blocks_inner::take_bytes` meets its contract. The loop's invariant, `Taking`: the texts of the lines that end in the first i bytes stand in the
-- buffer, and the line under way is held.
use Rattle.words.proofs.Needs.{arith, refl, sym, ◌∙◌, take, length-take}
use Rattle.stream_spec.proofs.Taking.{taking-none, taking-room, taking-on, taking-end}
use Rattle.stream_kind_inner.proofs.Telling.{said-tells}
use Rattle.stream_blocks_inner.proofs.take_bytes.Goals as goal

pub loop-b-init : goal.loop-b-init
loop-b-init c = (
  c.requires.line_len,
  omega (arith, c.requires),
  taking-none _ _ _ (take c.args.len c.args.line.now) c.args.block.now c.args.buf.now (simp length-take (omega (arith, c.requires))),
  refl,
)

pub take_byte-q-requires : goal.take_byte-q-requires
take_byte-q-requires c =
    record {
      line_len = c.loop-b.invariant.0;
      len_in_bounds = omega (arith, c.loop-b.invariant.0, c.loop-b.invariant.1);
      kind_in_bounds = taking-room _ _ _ (said-tells c.args.kind) _ _ _ _ _ _ _ c.loop-b.invariant.2 c.loop-b-test.true c.requires.kind_in_bounds;
    }

pub loop-b-preserved : goal.loop-b-preserved
loop-b-preserved c =
    let h = taking-room _ _ _ (said-tells c.args.kind) _ _ _ _ _ _ _ c.loop-b.invariant.2 c.loop-b-test.true c.requires.kind_in_bounds in
    let n = taking-on _ _ _ (said-tells c.args.kind) _ _ _ _ _ _ _ c.loop-b.invariant.2 c.loop-b-test.true h _ _ _ (rw c.loop-b.invariant.0 at c.take_byte-q.ensures.byte_says) in
    let f = c.take_byte-q.auto.line ∙ c.loop-b.invariant.0 in
    (f, omega (arith, f, c.take_byte-q.ensures.len_in_bounds_2), n, c.take_byte-q.auto.buf ∙ c.loop-b.invariant.3)

pub shape_of-line : goal.shape_of-line
shape_of-line c = c.loop-b.invariant.0 ∙ sym c.requires.line_len

pub shape_of-buf : goal.shape_of-buf
shape_of-buf c = c.loop-b.invariant.3

pub returns : goal.returns
returns c =
    record {
      len_in_bounds_2 = omega (arith, c.loop-b.invariant.0, c.loop-b.invariant.1);
      block_says = taking-end _ _ _ (said-tells c.args.kind) _ _ _ _ _ _ _ c.loop-b.invariant.2 (omega arith) c.loop-b-test.false c.requires.kind_in_bounds;
    }
