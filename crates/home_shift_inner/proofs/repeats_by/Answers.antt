-- `home_shift_inner::repeats_by` meets its contract: by its two tests.
use Rattle.words.proofs.Needs.{◌∙◌}
use Rattle.words.proofs.Plain.{ne_eqb}
use Rattle.home_shift_inner.proofs.Least.{repeats-not, repeats-same}
use Rattle.home_shift_inner.proofs.repeats_by.Goals as goal

pub returns-then-s-p-eq0 : goal.returns-then-s-p-eq0
returns-then-s-p-eq0 c = c.same_turns.ensures ∙ repeats-same c.args.s.now c.args.p c.if-s-p-eq0.true

pub returns-else-s-p-eq0 : goal.returns-else-s-p-eq0
returns-else-s-p-eq0 c = ne_eqb _ _ c.if-s-p-eq0.false ∙ repeats-not c.args.s.now c.args.p c.if-s-p-eq0.false
