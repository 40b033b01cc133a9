-- Values and cards checked by hand, of the definitions themselves: antt computes each (02, i: card 0 and 1 with k = 2, the value 0.5 is shade 1).
use Rattle.words.proofs.Plain.{◌≡◌, refl}
use lib.Ieee.{binary32, of_bits, of_fields, add, sub, mul, div, neg, sum, round, units, odd, size, climb, span, of_int, lt, eq, le, ne}
use Rattle.density_spec.specs.declared.Card.{Card}
use Rattle.density_spec.specs.Cuts.{cuts_up_to, shade_of, zero32, one32}

-- the card 0 and 1
abbrev pub full_card : Card
full_card = record { dark = zero32; light = one32 }

-- 0.5 is shade 1 of two
pub half-is-one : shade_of full_card 2 (of_bits binary32 0x3f00_0000) ≡ 1
unfolding cuts_up_to of_bits of_fields add sub mul div neg sum round units odd size climb span of_int lt eq le ne
half-is-one = refl
