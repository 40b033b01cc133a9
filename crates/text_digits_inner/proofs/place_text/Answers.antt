-- `text_digits_inner::place_text` meets its contract.
use Rattle.text_spec.proofs.Put.{placed_part}
use Rattle.text_digits_inner.proofs.place_text.Goals as goal

pub returns : goal.returns
returns c = placed_part _ _ _ _ c.requires c.copy_from_slice.ensures.after
