-- `sheet_print_inner::check_targets` meets its contract: the targets below the place pass.
use Rattle.refusal.proofs.Handed.{handed_on}
use Rattle.sheet_places_inner.proofs.Places.{slice_at}
use Rattle.sheet_print_inner.proofs.Ready.{pass-more, wrong-at}
use Rattle.sheet_print_inner.proofs.check_targets.Goals as goal

pub returns-in_err-check_target : goal.returns-in_err-check_target
returns-in_err-check_target c =
    let s = rw (slice_at c.args.sheet.n c.loop-j.j c.args.places.now) at c.in_err-check_target.ensures in
    rw (handed_on _ c.from_residual.ensures.1) (wrong-at c.args.sheet c.args.places.now c.args.count c.loop-j.j _ c.loop-j-test.true s c.loop-j.invariant)

pub loop-j-preserved : goal.loop-j-preserved
loop-j-preserved c =
    let s = rw (slice_at c.args.sheet.n c.loop-j.j c.args.places.now) at c.in_ok-check_target.ensures in
    pass-more c.args.sheet c.args.places.now c.args.count c.loop-j.j c.loop-j-test.true s c.loop-j.invariant
