-- `sheet_print_inner::judge` meets its contract.
use Rattle.refusal.proofs.Handed.{handed_on}
use Rattle.sheet_print_inner.proofs.Ready.{picked-places, judge-refused, judge-checked}
use Rattle.sheet_print_inner.proofs.judge.Goals as goal

pub returns-in_err-answer : goal.returns-in_err-answer
returns-in_err-answer c =
    let x = rw c.in_err-answer.was at c.requires in
    rw (handed_on _ c.from_residual.ensures.1) (judge-refused c.args.sheet c.args.places.now c.args.taken c.args.full _ x.0)

pub check_targets-requires : goal.check_targets-requires
check_targets-requires c = picked-places c.args.sheet c.args.places.now c.args.taken c.args.full (rw c.in_ok-answer.was at c.requires)

pub returns : goal.returns
returns c =
    judge-checked c.args.sheet c.args.places.now c.args.taken c.args.full (rw c.in_ok-answer.was at c.requires) c.check_targets.result
    c.if-taken-eq0.false c.check_targets.ensures
