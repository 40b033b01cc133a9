-- How many places a search raises. Each place that is raised ends a Lyndon word with which the answer begins and the reading does not; and each beginning of the answer
-- that is such a word ends at a place that is raised. So the number of rounds is a number of words.
--     raised_to w v        how many beginnings of v are Lyndon words and no beginnings of w
-- That there are at most as many as v has sectors: proofs/Raised, `raised-few`.
use Rattle.std.specs.Prelude.{ℕ, suc, Bool, ◌&&◌, not, List, length, take}
use Rattle.words.specs.Order.{same}
use Rattle.word_list_spec.specs.Passing.{count_below}
use Rattle.rings.specs.Necklace.{lyndon}

-- the first i + 1 sectors of v are a Lyndon word, and w does not begin so
unfoldable pub new_word : List ℕ → List ℕ → ℕ → Bool
new_word w v i = lyndon (take (suc i) v) && not (same (take (suc i) w) (take (suc i) v))

-- how many beginnings of v are Lyndon words and no beginnings of w
unfoldable pub raised_to : List ℕ → List ℕ → ℕ
raised_to w v = count_below (length v) (new_word w v)
