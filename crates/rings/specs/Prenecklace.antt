-- Prenecklaces, in the two forms of the page, lyn (001, Definition 3 and Theorem 1; 000, section 2; 002, section 2), and where a reading goes wrong
-- (02, b).
-- That the two forms agree: `ring_laws`, proofs/Begin. What is so of the place where a reading goes wrong: proofs/Wrong there.
use Rattle.std.specs.Prelude.{ℕ, suc, ◌-◌, ◌≡◌, Bool, true, not, List, ◌++◌, length, take, drop}
use Rattle.words.specs.Search.{all_below, least, greatest}
use Rattle.words.specs.Order.{up_to}
use Rattle.words.specs.Readings.{Reading}
use Rattle.rings.specs.Necklace.{necklace, lyndon}

-- the ending of w from place i on is not below the beginning of the same length
unfoldable pub ending_holds : List ℕ → ℕ → Bool
ending_holds w i = up_to (take (length w - i) w) (drop i w)

-- a prenecklace: each ending is not below the beginning of the same length
unfoldable pub prenecklace : List ℕ → Bool
prenecklace w = all_below (length w) (ending_holds w)

-- the other form: w is a beginning, possibly the whole, of some necklace over the same k shades, of whatever length
pub record Begins (k : ℕ) (w : List ℕ) : Type 0 where
  pub rest : List ℕ
  pub shades : Reading (length rest) k rest
  pub whole : necklace (w ++ rest) ≡ true

-- lyn: the length of the longest beginning that is a Lyndon word
unfoldable pub lyn : List ℕ → ℕ
lyn w = greatest (length w) (λ p. lyndon (take p w))

-- the beginning up to and including the sector at place i is no prenecklace
unfoldable pub wrong_at : List ℕ → ℕ → Bool
wrong_at w i = not (prenecklace (take (suc i) w))

-- where a reading goes wrong: the place, from 0, of the first sector whose beginning, up to and including it, is no prenecklace
-- (the length of a reading that is one)
unfoldable pub wrong_place : List ℕ → ℕ
wrong_place w = least (length w) (wrong_at w)
