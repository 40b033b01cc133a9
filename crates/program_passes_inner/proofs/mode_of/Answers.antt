-- `program_passes_inner::mode_of` meets its contract.
use Rattle.words.proofs.Needs.{sym, ◌∙◌, arith}
use Rattle.program_passes_inner.proofs.Modes.{mode-on, mode-ended, mode-none}
use Rattle.program_passes_inner.proofs.mode_of.Goals as goal

pub returns-then-here-eq10 : goal.returns-then-here-eq10
returns-then-here-eq10 c = sym (mode-ended _ c.loop-here.mode c.loop-here.here-index c.loop-here-test.true c.if-here-eq10.true) ∙ c.loop-here.invariant

pub loop-here-preserved : goal.loop-here-preserved
loop-here-preserved c = sym (mode-on _ c.loop-here.mode c.loop-here.here-index c.loop-here-test.true c.if-here-eq10.false) ∙ c.loop-here.invariant

pub returns : goal.returns
returns c = sym (mode-none _ c.loop-here.mode c.loop-here.here-index c.loop-here-test.false) ∙ c.loop-here.invariant

pub returns-in_default : goal.returns-in_default
returns-in_default c = sym (mode-none c.args.said.now 0 14 (omega (arith, c.in_default.ensures.lookup)))
