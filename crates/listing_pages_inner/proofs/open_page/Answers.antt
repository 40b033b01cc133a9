-- `listing_pages_inner::open_page` meets its contract.
use Rattle.words.proofs.Needs.{arith, length-take}
use Rattle.listing_pages_inner.proofs.Filling.{open-first, open-ring, open-inside, start-good, opened}
use Rattle.listing_pages_inner.proofs.open_page.Goals as goal

pub place_first-first-requires : goal.place_first-first-requires
place_first-first-requires c = open-first c.args.k c.args.n c.requires.listable c.args.buf.now c.requires.row_room_in_bounds

pub slice_bounds-place_zero_ring-end : goal.slice_bounds-place_zero_ring-end
slice_bounds-place_zero_ring-end c = simp length-take (omega arith)

pub place_zero_ring-at-requires : goal.place_zero_ring-at-requires
place_zero_ring-at-requires c =
    open-ring c.args.k c.args.n c.requires.listable c.args.buf.now c.requires.row_room_in_bounds _ _ c.place_first-first.ensures

pub fill_page-requires : goal.fill_page-requires
fill_page-requires c = record {
  good_state = start-good c.args.k c.args.n c.requires.listable _ _ (omega arith) (omega arith);
  from_in_bounds = open-inside c.args.k c.args.n c.requires.listable c.args.buf.now c.requires.row_room_in_bounds _ _
      c.place_first-first.ensures _ _ c.place_zero_ring-at.ensures;
}

pub returns : goal.returns
returns c =
    opened c.args.k c.args.n c.requires.listable c.args.buf.now c.requires.row_room_in_bounds _ _
    c.place_first-first.ensures _ _
    c.place_zero_ring-at.ensures _ _ c.fill_page.ensures
