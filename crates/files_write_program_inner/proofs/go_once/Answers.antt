-- `files_write_program_inner::go_once` meets its contract: of what was read so far every line that ended writes, and each block has a byte, so that the next begins further on.
use Rattle.words.proofs.Needs.{◌-◌, arith, refl, ◌∙◌}
use Rattle.refusal.proofs.{Handed.handed_on}
use Rattle.files_write_program_inner.proofs.Turns.{lines-roomy, reached-none, reached-few, line_on, line-done, line-stopped, too_long}
use Rattle.files_write_program_inner.proofs.go_once.Goals as goal

pub loop-at-init : goal.loop-at-init
loop-at-init c = (c.requires, refl, refl, refl, omega arith, reached-none c.args.kind c.args.line.now)

pub take_at-requires : goal.take_at-requires
take_at-requires c =
    record {
      at_lt_limit = c.loop-at-test.true;
      roomy_lines = c.loop-at.invariant.0;
      len_in_bounds = c.loop-at.invariant.4;
      lines_le_at = reached-few _ _ _ _ c.loop-at.invariant.5;
    }

pub overflow_add-at : goal.overflow_add-at
overflow_add-at c =
    let g = line_on c.args.kind c.args.time c.loop-at.at _ c.loop-at.lines c.loop-at.invariant.5 _ _ _ _ c.in-Some.gone
    (omega (arith, c.loop-at.invariant.0.some, c.block-1.given)) (rw c.in-Some.is at c.in_ok-gone.ensures) in
    omega (arith, g.1, c.loop-at.invariant.0.short, c.loop-at-test.true, c.block-1.given)

pub loop-at-smaller : goal.loop-at-smaller
loop-at-smaller c =
    let g = line_on c.args.kind c.args.time c.loop-at.at _ c.loop-at.lines c.loop-at.invariant.5 _ _ _ _ c.in-Some.gone
    (omega (arith, c.loop-at.invariant.0.some, c.block-1.given)) (rw c.in-Some.is at c.in_ok-gone.ensures) in
    omega (arith, g.0, c.loop-at-test.true)

pub loop-at-preserved : goal.loop-at-preserved
loop-at-preserved c =
    let g = line_on c.args.kind c.args.time c.loop-at.at _ c.loop-at.lines c.loop-at.invariant.5 _ _ _ _ c.in-Some.gone
    (omega (arith, c.loop-at.invariant.0.some, c.block-1.given)) (rw c.in-Some.is at c.in_ok-gone.ensures) in (
      lines-roomy _ _ _ _ _ _ c.loop-at.invariant.0 c.block-1.given c.line-1.given c.out-1.given,
      c.block-1.given ∙ c.loop-at.invariant.1,
      c.line-1.given ∙ c.loop-at.invariant.2,
      c.out-1.given ∙ c.loop-at.invariant.3,
      g.2,
      g.3,
    )

pub returns : goal.returns
returns c =
    too_long c.args.kind c.args.time c.loop-at.at _ c.loop-at.lines c.loop-at-test.false c.loop-at.invariant.5

pub returns-in_err-gone : goal.returns-in_err-gone
returns-in_err-gone c =
    rw (handed_on _ c.from_residual.ensures.1)
    (line-stopped c.args.kind c.args.time c.loop-at.at _ c.loop-at.lines c.loop-at.invariant.5 _ _ _ _ _ c.in_err-gone.ensures)

pub returns-in_default : goal.returns-in_default
returns-in_default c =
    line-done c.args.kind c.args.time c.loop-at.at _ c.loop-at.lines c.loop-at.invariant.5 _ _ _ _ (rw c.in_default.is at c.in_ok-gone.ensures)
