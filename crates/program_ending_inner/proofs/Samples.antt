-- Texts written out, number and place as README.md has them.
--     refused-sample    a ring that is no necklace, at place 4 of a catalogue
--     far-sample        a place behind 4,294,967,296 bytes
--     whole-sample      nothing is said where all is well
use Rattle.words.proofs.Plain.{◌≡◌, refl, [], ◌∷◌, ◌++◌}
use Rattle.text_spec.specs.{Ascii.ascii, Decimal.decimal, Decimal.decimal_in, Text.two_numbers}
use Rattle.program_ending_inner.specs.declared.Ending.TheVariants.{Whole, Refused}
use Rattle.program_ending_inner.specs.Text.{ending_text}

pub refused-sample : ending_text (Refused 9 4) ≡ ascii "refused 9 at 4\n"
unfolding ending_text two_numbers decimal decimal_in
refused-sample = refl

pub far-sample : ending_text (Refused 7 4294967306) ≡ ascii "refused 7 at 4294967306\n"
unfolding ending_text two_numbers decimal decimal_in
far-sample = refl

pub whole-sample : ending_text Whole ≡ []
unfolding ending_text
whole-sample = refl
