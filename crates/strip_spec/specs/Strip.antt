-- The strip along the frame (02, request l): every Lyndon word over k shades whose length divides n, in increasing order, one after another.
--     dictionary n k     every word of at most n sectors and of k shades, in increasing order: a beginning comes first
--     on_strip n u        u is a Lyndon word whose length divides n
--     strip_words n k     every such word over k shades, in increasing order
--     joined ws          the words of the list, one after another
--     strip n k          the strip
-- That `strip_words` holds each such word, nothing else, and in increasing order: proofs/Words. That the strip has k to the power n sectors: `strip_laws`, proofs/Pieces.
use Rattle.std.specs.Prelude.{ℕ, zero, suc, ◌%◌, Bool, ◌&&◌, List, [], ◌∷◌, ◌++◌, length, eqb}
use Rattle.words.specs.Readings.{fan}
use Rattle.word_list_spec.specs.Passing.{kept}
use Rattle.rings.specs.Necklace.{lyndon}

-- every word of at most n sectors and of k shades: the empty word, then each shade in front of each word of at most n - 1 sectors
unfoldable pub dictionary : ℕ → ℕ → List (List ℕ)
dictionary zero k = [] ∷ []
dictionary (suc n) k = [] ∷ fan k (dictionary n k)

-- a Lyndon word whose length divides n
unfoldable pub on_strip : ℕ → List ℕ → Bool
on_strip n u = lyndon u && eqb (n % length u) 0

-- every Lyndon word over k shades whose length divides n, in increasing order
unfoldable pub strip_words : ℕ → ℕ → List (List ℕ)
strip_words n k = kept (on_strip n) (dictionary n k)

-- the words of the list, one after another
unfoldable pub joined : List (List ℕ) → List ℕ
joined [] = []
joined (w ∷ ws) = w ++ joined ws

-- the strip
unfoldable pub strip : ℕ → ℕ → List ℕ
strip n k = joined (strip_words n k)
