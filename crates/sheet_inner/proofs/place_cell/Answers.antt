-- `sheet_inner::place_cell` meets its contract.
use Rattle.text_form_inner.proofs.Fits.{fits-append}
use Rattle.sheet_inner.proofs.Cells.{cell-fits}
use Rattle.sheet_inner.proofs.place_cell.Goals as goal

pub returns : goal.returns
returns c =
    cell-fits _ _ c.args.ring.now _ _ _ c.per_page.ensures.0 c.across_of-x.ensures c.down_of-y.ensures _ _ _ _
    (fits-append (fits-append (fits-append c.place_cell_head-a.ensures c.place_ring-b.ensures) c.place_tail-c.ensures) c.place_cell_foot.ensures)
