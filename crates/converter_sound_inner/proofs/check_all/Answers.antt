-- `converter_sound_inner::check_all` meets its contract. The loop's invariant: what is found from the present place on is found from 0 on.
use Rattle.words.proofs.Needs.{ℕ, ◌+◌, ap}
use Rattle.refusal.proofs.Handed.{handed_on}
use Rattle.converter_sound_inner.proofs.Going.{going-found, going_on, going-ended}
use Rattle.converter_sound_inner.proofs.check_all.Goals as goal

pub returns-in_err-check_old : goal.returns-in_err-check_old
returns-in_err-check_old c =
    rw (handed_on _ c.from_residual.ensures.1) (going-found _ _ c.loop-at.invariant _ c.loop-at-test.true c.in_err-check_old.ensures)

pub loop-at-preserved : goal.loop-at-preserved
loop-at-preserved c =
    going_on _ _ c.loop-at.invariant _ (ap (λ (n : ℕ). c.loop-at.at + (4 + n)) c.from.ensures) c.in_ok-check_old.ensures

pub returns : goal.returns
returns c = going-ended _ _ c.loop-at.invariant c.loop-at-test.false
