-- `sheet_inner::place_closing` meets its contract.
use Rattle.sheet_inner.proofs.Cells.{fits-skip, fits-where}
use Rattle.sheet_inner.proofs.place_closing.Goals as goal

pub returns-then-not-ends : goal.returns-then-not-ends
returns-then-not-ends c = fits-skip 320 _ _ _ _ c.if-not-ends.true-raw

pub returns : goal.returns
returns c = fits-where 320 _ _ _ _ _ _ c.if-not-ends.false-raw c.place_foot.ensures
