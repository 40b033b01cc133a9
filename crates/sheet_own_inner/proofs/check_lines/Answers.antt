-- `sheet_own_inner::check_lines` meets its contract: the lines before the place pass.
use Rattle.words.proofs.Needs.{◌-◌, arith, refl, ◌∙◌, length-take, length-drop}
use Rattle.stream_spec.specs.Lines.{lines}
use Rattle.sheet_lines_inner.proofs.Lines.{reached-first, reached-on, reached-line, reached-over, relent-length}
use Rattle.sheet_own_inner.proofs.Checks.{lines_more, lines-wrong}
use Rattle.sheet_own_inner.proofs.check_lines.Goals as goal

pub loop-at-init : goal.loop-at-init
loop-at-init c = (reached-first c.args.s.now, λ i h. absurd (omega arith), refl)

pub overflow_sub-n : goal.overflow_sub-n
overflow_sub-n c = omega (arith, c.line_end-e.ensures.from)

pub slice_bounds-check_line-count : goal.slice_bounds-check_line-count
slice_bounds-check_line-count c = omega (arith, c.line_end-e.ensures.from)

pub slice_bounds-check_line-start : goal.slice_bounds-check_line-start
slice_bounds-check_line-start c = omega (arith, c.line_end-e.ensures.from)

pub slice_bounds-check_line-end : goal.slice_bounds-check_line-end
slice_bounds-check_line-end c = omega (arith, c.line_end-e.ensures.within)

pub slice_bounds-check_line-end-in-loop-at : goal.slice_bounds-check_line-end-in-loop-at
slice_bounds-check_line-end-in-loop-at c = omega (arith, c.line_end-e.ensures.within, c.loop-at.invariant.2, c.requires)

pub slice_bounds-check_line-end-in-loop-at-2 : goal.slice_bounds-check_line-end-in-loop-at-2
slice_bounds-check_line-end-in-loop-at-2 c = simp length-take (omega (
  arith,
  c.line_end-e.ensures.within,
  c.loop-at.invariant.2,
  c.requires,
))

pub check_line-requires : goal.check_line-requires
check_line-requires c =
    simp (length-take, length-drop) (omega (arith, c.line_end-e.ensures.from, c.line_end-e.ensures.within, c.loop-at.invariant.2, c.requires))

pub overflow_add-result : goal.overflow_add-result
overflow_add-result c = omega (
  arith,
  c.loop-at.invariant.0.few,
  c.loop-at-test.true,
)

pub returns-in-Err : goal.returns-in-Err
returns-in-Err c =
    let x = reached-line c.args.s.now c.loop-at.at c.loop-at.i c.loop-at.invariant.0 _ c.line_end-e.ensures in
    lines-wrong c.args.sheet (lines c.args.s.now) c.loop-at.i _ x.1 c.in-Err.refusal (rw c.in-Err.is at c.check_line.ensures) x.0 c.loop-at.invariant.1

pub overflow_add-at : goal.overflow_add-at
overflow_add-at c = omega (arith, c.line_end-e.ensures.within)

pub overflow_add-i : goal.overflow_add-i
overflow_add-i c = omega (
  arith,
  c.loop-at.invariant.0.few,
  c.loop-at-test.true,
)

pub loop-at-smaller : goal.loop-at-smaller
loop-at-smaller c = omega (arith, c.line_end-e.ensures.from, c.line_end-e.ensures.within)

pub loop-at-preserved : goal.loop-at-preserved
loop-at-preserved c =
    let x = reached-line c.args.s.now c.loop-at.at c.loop-at.i c.loop-at.invariant.0 _ c.line_end-e.ensures in
    let v = rw c.in_default.is at c.check_line.ensures in
    let k = relent-length (c.line_end-e.result - c.loop-at.at) c.loop-at.ring c.check_line.new.ring
    c.check_line.auto.ring (omega (
      arith,
      c.line_end-e.ensures.within,
      c.loop-at.invariant.2,
      c.requires,
    )) in (
      reached-on c.args.s.now c.loop-at.at c.loop-at.i c.loop-at.invariant.0 _ c.line_end-e.ensures,
      lines_more c.args.sheet (lines c.args.s.now) c.loop-at.i _ x.1 v c.loop-at.invariant.1,
      k ∙ c.loop-at.invariant.2,
    )

pub returns : goal.returns
returns c =
    let h = reached-over c.args.s.now c.loop-at.at c.loop-at.i c.loop-at.invariant.0 (omega (arith, c.loop-at-test.false)) in
    (omega (arith, c.loop-at.invariant.0.most, h), c.loop-at.invariant.1)
