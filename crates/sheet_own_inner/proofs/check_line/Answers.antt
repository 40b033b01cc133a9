-- `sheet_own_inner::check_line` meets its contract.
use Rattle.words.proofs.Needs.{not-true, not-false}
use Rattle.sheet_own_inner.proofs.Checks.{line-unread, line-checked}
use Rattle.sheet_own_inner.proofs.check_line.Goals as goal

pub returns-then-not-spell : goal.returns-then-not-spell
returns-then-not-spell c =
    line-unread c.args.sheet c.args.line.now c.args.i (rw (not-true c.spell.result c.if-not-spell.true-raw) at c.spell.ensures)

pub returns : goal.returns
returns c =
    let w = rw (not-false c.spell.result c.if-not-spell.false-raw) at c.spell.ensures in
    line-checked c.args.sheet c.args.line.now c.args.i _ w c.check_target.result c.check_target.ensures
