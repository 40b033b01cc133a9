-- `listing::next_page` meets its contract.
use Rattle.words.proofs.Needs.{arith, not-true, not-false}
use Rattle.listing.proofs.Making.{next-none, next-filled}
use Rattle.listing.proofs.next_page.Goals as goal

pub returns-then-not-is_good : goal.returns-then-not-is_good
returns-then-not-is_good c =
    next-none c.args.s c.args.buf.now _ (rw (not-true c.is_good.result c.if-not-is_good.true-raw) at
    c.is_good.ensures) c.empty_page.ensures

pub fill_page-requires : goal.fill_page-requires
fill_page-requires c = record { good_state = rw (not-false c.is_good.result c.if-not-is_good.false-raw) at c.is_good.ensures; from_in_bounds = omega arith }

pub returns : goal.returns
returns c =
    next-filled c.args.s c.args.buf.now _ _ (rw (not-false c.is_good.result
    c.if-not-is_good.false-raw) at c.is_good.ensures)
    c.fill_page.ensures
