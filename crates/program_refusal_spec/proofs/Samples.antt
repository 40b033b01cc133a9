-- A text written out.
--     line-sample       refused 3 at 2 in line 4
use Rattle.words.proofs.Plain.{◌≡◌, refl}
use Rattle.text_spec.specs.{Ascii.ascii, Decimal.decimal, Decimal.decimal_in}
use Rattle.text_fill_spec.specs.Filled.{filled_text}
use Rattle.refusal.specs.declared.Refusal.TheVariants as R
use Rattle.program_refusal_spec.specs.Text.{refused_line_text}

pub line-sample : refused_line_text (R.Sector 2) 4 ≡ ascii "refused 3 at 2 in line 4\n"
unfolding filled_text decimal decimal_in
line-sample = refl
