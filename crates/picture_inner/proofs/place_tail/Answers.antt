-- `picture_inner::place_tail` meets its contract.
use Rattle.words.proofs.Needs.{rules}
use Rattle.words.proofs.Needs.{arith}
use Rattle.text_fill_spec.specs.Filled.{slots, longest}
use Rattle.text_form_inner.proofs.Fits.{fits_more}
use Rattle.picture_spec.specs.Text.{tail_text}
use Rattle.picture_inner.proofs.place_tail.Goals as goal

pub place_form-requires : goal.place_form-requires
unfolding longest slots
place_form-requires c = search rules

pub returns : goal.returns
unfolding longest slots tail_text
returns c = fits_more c.place_form.ensures 64 (omega arith)
