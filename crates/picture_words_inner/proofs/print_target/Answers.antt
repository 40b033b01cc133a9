-- `picture_words_inner::print_target` meets its contract.
use Rattle.picture_words_inner.proofs.Words.{drawn-put, refused-put}
use Rattle.picture_words_inner.proofs.print_target.Goals as goal

pub returns-in-Ok : goal.returns-in-Ok
returns-in-Ok c =
    drawn-put c.args.k c.args.w.now
    c.args.tone c.args.buf.now _ _
    (rw c.in-Ok.is at c.draw.ensures)

pub returns-in-Err : goal.returns-in-Err
returns-in-Err c =
    refused-put c.args.k c.args.w.now c.args.tone c.args.buf.now c.in-Err.r _ _ _ c.requires
    (rw c.in-Err.is at c.draw.ensures) c.place_refusal.ensures
