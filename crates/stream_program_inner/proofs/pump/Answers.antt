-- `stream_program_inner::pump` meets its contract. The measure is the number of reads that are left.
use Rattle.words.proofs.Needs.{◌-◌, arith, refl, sym, ◌∙◌, not-true, not-false}
use Rattle.stream_program_inner.specs.Says.{none}
use Rattle.stream_steps_inner.proofs.Going.{goes-less}
use Rattle.stream_program_inner.proofs.Stopping.{turns_more}
use Rattle.stream_program_inner.proofs.pump.Goals as goal

pub loop-kind-init : goal.loop-kind-init
loop-kind-init c = (refl, c.requires.line_len, omega arith, refl, none)

pub turn-t-requires : goal.turn-t-requires
turn-t-requires c =
    record {
      line_len = c.loop-kind.invariant.1;
      len_in_bounds = omega (arith, c.loop-kind.invariant.2);
      block_nonzero = (
        omega (arith, c.loop-kind.invariant.0, c.requires.block_nonzero.0),
        rw (c.loop-kind.invariant.0, c.loop-kind.invariant.3) c.requires.block_nonzero.1,
      );
    }

pub shape_of-block-then-not-goes_on : goal.shape_of-block-then-not-goes_on
shape_of-block-then-not-goes_on c =
    c.turn-t.auto.block ∙ c.loop-kind.invariant.0

pub shape_of-line-then-not-goes_on : goal.shape_of-line-then-not-goes_on
shape_of-line-then-not-goes_on c =
    c.turn-t.auto.line ∙ c.loop-kind.invariant.1 ∙ sym c.requires.line_len

pub shape_of-buf-then-not-goes_on : goal.shape_of-buf-then-not-goes_on
shape_of-buf-then-not-goes_on c =
    c.turn-t.auto.buf ∙ c.loop-kind.invariant.3

pub returns-then-not-goes_on : goal.returns-then-not-goes_on
returns-then-not-goes_on c =
    let g = rw (not-true c.goes_on.result c.if-not-goes_on.true-raw) at c.goes_on.ensures in
    record { goes_on = g; pump_says = record { held = _; left = _; buffer = _; turns = c.loop-kind.invariant.4; answered = c.turn-t.ensures.read_answered } }

pub overflow_add-reads : goal.overflow_add-reads
overflow_add-reads c =
    let on = rw (not-false c.goes_on.result c.if-not-goes_on.false-raw) at c.goes_on.ensures in
    omega (arith, goes-less c.turn-t.result.wrote c.turn-t.result.got c.loop-kind.reads on)

pub loop-kind-smaller : goal.loop-kind-smaller
loop-kind-smaller c =
    let on = rw (not-false c.goes_on.result c.if-not-goes_on.false-raw) at c.goes_on.ensures in
    omega (arith, goes-less c.turn-t.result.wrote c.turn-t.result.got c.loop-kind.reads on)

pub loop-kind-preserved : goal.loop-kind-preserved
loop-kind-preserved c =
    let on = rw (not-false c.goes_on.result c.if-not-goes_on.false-raw) at c.goes_on.ensures in
    let m = turns_more c.args.kind c.turn-t.result.wrote c.turn-t.result.got c.loop-kind.reads _ _ _ _ _ on c.loop-kind.invariant.4 c.turn-t.ensures.read_answered in
    (c.turn-t.auto.block ∙ c.loop-kind.invariant.0, c.turn-t.auto.line ∙ c.loop-kind.invariant.1, c.turn-t.ensures.len_in_bounds_2, c.turn-t.auto.buf ∙ c.loop-kind.invariant.3, m)
