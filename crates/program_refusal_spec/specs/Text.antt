-- What a program says of a line of its input that is refused.
--     refused_line_text r n    refused 3 at 2 in line 4: the refusal's number and place, and the line's number n, counted from 1
-- Written out once: proofs/Samples.
use Rattle.std.specs.Prelude.{ℕ, List, [], ◌∷◌}
use Rattle.text_spec.specs.Ascii.{ascii}
use Rattle.text_fill_spec.specs.Filled.{filled_text}
use Rattle.refusal.specs.declared.Refusal.{Refusal}
use Rattle.refusal.specs.Numbers.{number_of, place_of}

abbrev pub refused_line_text : Refusal → ℕ → List ℕ
refused_line_text r n = filled_text (ascii "refused % at % in line %\n") (number_of r ∷ place_of r ∷ n ∷ []) 0 []
