-- `sheet_inner::place_opening` meets its contract.
use Rattle.words.proofs.Needs.{arith}
use Rattle.sheet_inner.proofs.Cells.{fits-skip, fits-where}
use Rattle.sheet_inner.proofs.place_opening.Goals as goal

pub returns-then-not-first : goal.returns-then-not-first
returns-then-not-first c = fits-skip 320 _ _ _ _ c.if-not-first.true-raw

pub returns : goal.returns
returns c = fits-where 320 _ _ _ _ _ _ c.if-not-first.false-raw (record { short = omega arith; placed = c.place_text.ensures })
