-- Lines cut into words, worked out by hand.
use Rattle.words.proofs.Plain.{◌≡◌, refl, List, [], ◌∷◌}
use Rattle.text_spec.specs.Ascii.{ascii, space}
use Rattle.text_words_spec.specs.Words.{onto, pieces}

-- three words
pub three-words : pieces space (ascii "class 2 0100") ≡ (ascii "class" ∷ ascii "2" ∷ ascii "0100" ∷ [])
unfolding pieces onto
three-words = refl

-- an empty word at the end and one between two spaces
pub empty-words : pieces space (ascii "2  1 ") ≡ (ascii "2" ∷ [] ∷ ascii "1" ∷ [] ∷ [])
unfolding pieces onto
empty-words = refl

-- nothing is one empty word
pub no_words : pieces space [] ≡ ([] ∷ [])
unfolding pieces
no_words = refl
