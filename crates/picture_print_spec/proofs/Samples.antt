-- Lines worked out by hand.
--     a-target, in-levels    what a line asks for
use Rattle.words.proofs.Plain.{ℕ, ◌<◌, ◌≤◌, arith, ◌≡◌, refl, List, [], ◌∷◌, map}
use Rattle.text_spec.specs.{Ascii.ascii, Ascii.space, Decimal.decimal, Decimal.decimal_in, Text.hex_of}
use Rattle.text_words_spec.specs.Words.{pieces, onto}
use Rattle.picture_spec.specs.declared.Tone.TheVariants.{Managed, Levels}
use Rattle.picture_print_spec.specs.Prints.{tone_words}

pub a-target : pieces space (ascii "2 001101") ≡ decimal 2 ∷ map hex_of (0 ∷ 0 ∷ 1 ∷ 1 ∷ 0 ∷ 1 ∷ []) ∷ tone_words Managed
unfolding pieces onto decimal decimal_in
a-target = refl

pub in-levels : pieces space (ascii "16 0f levels") ≡ decimal 16 ∷ map hex_of (0 ∷ 15 ∷ []) ∷ tone_words Levels
unfolding pieces onto decimal decimal_in
in-levels = refl
