-- `sheet_inner::place_foot` meets its contract.
use Rattle.words.proofs.Needs.{rules}
use Rattle.words.proofs.Needs.{arith}
use Rattle.text_fill_spec.specs.Filled.{slots, longest}
use Rattle.text_form_inner.proofs.Fits.{fits_more}
use Rattle.sheet_spec.specs.Text.{foot_of}
use Rattle.sheet_inner.proofs.place_foot.Goals as goal

pub place_form-requires : goal.place_form-requires
unfolding longest slots
place_form-requires c = search rules

pub place_form-requires-in-Plain : goal.place_form-requires-in-Plain
unfolding longest slots
place_form-requires-in-Plain c = search rules

pub place_form-requires-in-Own : goal.place_form-requires-in-Own
unfolding longest slots
place_form-requires-in-Own c = search rules

pub returns-in-Guarded : goal.returns-in-Guarded
unfolding longest slots foot_of
returns-in-Guarded c =
    rw c.in-Guarded.is (fits_more c.place_form.ensures 320 (omega arith))

pub returns-in-Plain : goal.returns-in-Plain
unfolding longest slots foot_of
returns-in-Plain c =
    rw c.in-Plain.is (fits_more c.place_form-in-Plain.ensures 320 (omega arith))

pub returns-in-Own : goal.returns-in-Own
unfolding longest slots foot_of
returns-in-Own c =
    rw c.in-Own.is (fits_more c.place_form-in-Own.ensures 320 (omega arith))
