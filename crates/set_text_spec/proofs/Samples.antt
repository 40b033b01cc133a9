-- Texts of sets computed from the definitions.
use Rattle.words.proofs.Plain.{◌≡◌, refl, true, false, [], ◌∷◌}
use Rattle.text_spec.specs.{Ascii.ascii, Decimal.decimal_in, Decimal.decimal}
use Rattle.set_text_spec.specs.Text.{ring_text, ring_texts, full_text, taken_text, set_text}

pub text-holds : (set_text ((0 ∷ 0 ∷ 1 ∷ []) ∷ (0 ∷ 10 ∷ 15 ∷ []) ∷ []) false ≡ ascii "001\n0af\ntaken 2 not full\n") × (set_text [] true ≡ ascii "taken 0 full\n")
unfolding ring_text ring_texts full_text taken_text set_text decimal decimal_in
text-holds = (refl, refl)
