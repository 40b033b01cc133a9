-- `listing_pages_inner::fill_page` meets its contract.
use Rattle.words.proofs.Needs.{arith}
use Rattle.listing_pages_inner.proofs.Filling.{page-full, last-room, page-last}
use Rattle.listing_pages_inner.proofs.fill_page.Goals as goal

pub returns-then-rows : goal.returns-then-rows
returns-then-rows c =
    page-full c.args.s c.args.buf.now c.args.from _ _ c.fill_rows-rows.ensures c.if-rows.true

pub place_last-end-requires : goal.place_last-end-requires
place_last-end-requires c =
    omega (arith, last-room c.args.s c.args.buf.now c.args.from _ _ c.fill_rows-rows.ensures c.if-rows.false)

pub returns : goal.returns
returns c =
    page-last c.args.s c.args.buf.now c.args.from _ _ c.fill_rows-rows.ensures
    c.if-rows.false _ _ c.place_last-end.ensures c.empty_state.result
    c.empty_state.ensures
