-- `files_write_byte_inner::take_last` meets its contract.
use Rattle.words.proofs.Needs.{arith, refl}
use Rattle.stream_spec.proofs.Taking.{end_none, end-some}
use Rattle.files_write_byte_inner.proofs.take_last.Goals as goal

pub returns-then-line-eq0 : goal.returns-then-line-eq0
returns-then-line-eq0 c = (end_none _ _ _ c.if-line-eq0.true, refl, refl)

pub returns-in-Ok : goal.returns-in-Ok
returns-in-Ok c =
    (end-some _ _ _ _ (omega (arith, c.if-line-eq0.false)) c.requires.record_room_in_bounds _ _ (rw c.in-Ok.is at c.place_line.ensures), refl, refl)

pub returns-in-Err : goal.returns-in-Err
returns-in-Err c =
    let h = rw c.in-Err.is at c.place_line.ensures in (omega (arith, c.if-line-eq0.false), h.0, refl)
