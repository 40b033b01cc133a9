-- `listing::first_page` meets its contract.
use Rattle.words.proofs.Needs.{arith}
use Rattle.listing.proofs.Making.{first_small, first-refused, first-listed}
use Rattle.listing.proofs.first_page.Goals as goal

pub returns-then-buf-lt-LINE_ROOM : goal.returns-then-buf-lt-LINE_ROOM
returns-then-buf-lt-LINE_ROOM c = first_small c.args.line.now c.args.buf.now _ (omega (arith, c.if-buf-lt-LINE_ROOM.true)) c.empty_page.ensures

pub refused_page-requires : goal.refused_page-requires
refused_page-requires c = omega (arith, c.if-buf-lt-LINE_ROOM.false)

pub open_page-requires : goal.open_page-requires
open_page-requires c =
    let p = rw c.in-Ok.is at c.plan.ensures in record { listable = p.1; row_room_in_bounds = omega (arith, c.if-buf-lt-LINE_ROOM.false) }

pub returns-in-Err : goal.returns-in-Err
returns-in-Err c =
    first-refused c.args.line.now c.args.buf.now _ _ (omega (arith, c.if-buf-lt-LINE_ROOM.false))
    c.in-Err.r (rw c.in-Err.is at c.plan.ensures) c.refused_page.ensures

pub returns-in-Ok : goal.returns-in-Ok
returns-in-Ok c =
    first-listed c.args.line.now c.args.buf.now _ _ (omega (arith, c.if-buf-lt-LINE_ROOM.false))
    c.in-Ok.k c.in-Ok.n (rw c.in-Ok.is at c.plan.ensures) c.open_page.ensures
