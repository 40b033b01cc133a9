-- `report_answers_inner::place_refusal` meets its contract.
use Rattle.text_spec.proofs.Put.{placed-length}
use Rattle.report_answers_inner.proofs.place_refusal.Goals as goal

pub place_refused-requires : goal.place_refused-requires
place_refused-requires c = rw c.number-number.ensures c.requires

pub shape_of-buf : goal.shape_of-buf
shape_of-buf c = placed-length _ _ _ _ _ c.place_refused.ensures

pub returns : goal.returns
returns c = rw c.number-number.ensures at c.place_refused.ensures
