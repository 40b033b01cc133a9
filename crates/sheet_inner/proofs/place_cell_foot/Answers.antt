-- `sheet_inner::place_cell_foot` meets its contract.
use Rattle.words.proofs.Needs.{rules}
use Rattle.words.proofs.Needs.{arith}
use Rattle.text_fill_spec.specs.Filled.{slots, longest}
use Rattle.text_form_inner.proofs.Fits.{fits_more}
use Rattle.sheet_spec.specs.Text.{cell_foot}
use Rattle.sheet_inner.proofs.place_cell_foot.Goals as goal

pub place_form-requires : goal.place_form-requires
unfolding longest slots
place_form-requires c = search rules

pub returns : goal.returns
unfolding longest slots cell_foot
returns c = fits_more c.place_form.ensures 832 (omega arith)
