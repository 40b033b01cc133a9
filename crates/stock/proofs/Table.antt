-- The table's 256 entries, and one computed test of all of them.
--     homes        the table
--     right        the test of an entry
--     all_right    every entry passes it
use Rattle.words.proofs.Plain.{ℕ, ◌≡◌, refl, Bool, true, List, [], ◌∷◌, eqb, get_or}
use Rattle.words.specs.Search.{all_below}
use Rattle.rings.specs.Open.{open-all}
use Rattle.stock_spec.specs.Stock.{bits, byte_of_sectors, home_byte}

-- the table of src/lib.rt
unfoldable pub homes : List ℕ
homes =
    0 ∷ 1 ∷ 1 ∷ 3 ∷ 1 ∷ 5 ∷ 3 ∷ 7 ∷ 1 ∷ 9 ∷ 5 ∷ 11 ∷ 3 ∷ 13 ∷ 7 ∷ 15 ∷
    1 ∷ 17 ∷ 9 ∷ 19 ∷ 5 ∷ 21 ∷ 11 ∷ 23 ∷ 3 ∷ 25 ∷ 13 ∷ 27 ∷ 7 ∷ 29 ∷ 15 ∷ 31 ∷
    1 ∷ 9 ∷ 17 ∷ 25 ∷ 9 ∷ 37 ∷ 19 ∷ 39 ∷ 5 ∷ 37 ∷ 21 ∷ 43 ∷ 11 ∷ 45 ∷ 23 ∷ 47 ∷
    3 ∷ 19 ∷ 25 ∷ 51 ∷ 13 ∷ 53 ∷ 27 ∷ 55 ∷ 7 ∷ 39 ∷ 29 ∷ 59 ∷ 15 ∷ 61 ∷ 31 ∷ 63 ∷
    1 ∷ 5 ∷ 9 ∷ 13 ∷ 17 ∷ 21 ∷ 25 ∷ 29 ∷ 9 ∷ 37 ∷ 37 ∷ 45 ∷ 19 ∷ 53 ∷ 39 ∷ 61 ∷
    5 ∷ 21 ∷ 37 ∷ 53 ∷ 21 ∷ 85 ∷ 43 ∷ 87 ∷ 11 ∷ 43 ∷ 45 ∷ 91 ∷ 23 ∷ 87 ∷ 47 ∷ 95 ∷
    3 ∷ 11 ∷ 19 ∷ 27 ∷ 25 ∷ 43 ∷ 51 ∷ 59 ∷ 13 ∷ 45 ∷ 53 ∷ 91 ∷ 27 ∷ 91 ∷ 55 ∷ 111 ∷
    7 ∷ 23 ∷ 39 ∷ 55 ∷ 29 ∷ 87 ∷ 59 ∷ 119 ∷ 15 ∷ 47 ∷ 61 ∷ 111 ∷ 31 ∷ 95 ∷ 63 ∷ 127 ∷
    1 ∷ 3 ∷ 5 ∷ 7 ∷ 9 ∷ 11 ∷ 13 ∷ 15 ∷ 17 ∷ 19 ∷ 21 ∷ 23 ∷ 25 ∷ 27 ∷ 29 ∷ 31 ∷
    9 ∷ 25 ∷ 37 ∷ 39 ∷ 37 ∷ 43 ∷ 45 ∷ 47 ∷ 19 ∷ 51 ∷ 53 ∷ 55 ∷ 39 ∷ 59 ∷ 61 ∷ 63 ∷
    5 ∷ 13 ∷ 21 ∷ 29 ∷ 37 ∷ 45 ∷ 53 ∷ 61 ∷ 21 ∷ 53 ∷ 85 ∷ 87 ∷ 43 ∷ 91 ∷ 87 ∷ 95 ∷
    11 ∷ 27 ∷ 43 ∷ 59 ∷ 45 ∷ 91 ∷ 91 ∷ 111 ∷ 23 ∷ 55 ∷ 87 ∷ 119 ∷ 47 ∷ 111 ∷ 95 ∷ 127 ∷
    3 ∷ 7 ∷ 11 ∷ 15 ∷ 19 ∷ 23 ∷ 27 ∷ 31 ∷ 25 ∷ 39 ∷ 43 ∷ 47 ∷ 51 ∷ 55 ∷ 59 ∷ 63 ∷
    13 ∷ 29 ∷ 45 ∷ 61 ∷ 53 ∷ 87 ∷ 91 ∷ 95 ∷ 27 ∷ 59 ∷ 91 ∷ 111 ∷ 55 ∷ 119 ∷ 111 ∷ 127 ∷
    7 ∷ 15 ∷ 23 ∷ 31 ∷ 39 ∷ 47 ∷ 55 ∷ 63 ∷ 29 ∷ 61 ∷ 87 ∷ 95 ∷ 59 ∷ 111 ∷ 119 ∷ 127 ∷
    15 ∷ 31 ∷ 47 ∷ 63 ∷ 61 ∷ 95 ∷ 111 ∷ 127 ∷ 31 ∷ 63 ∷ 95 ∷ 127 ∷ 63 ∷ 127 ∷ 127 ∷ 255 ∷ []

-- entry b is the home reading of the byte b
unfoldable pub right : ℕ → Bool
right b = eqb (get_or homes b 0) (home_byte b)

-- the test passes at every byte
pub all_right : all_below 256 right ≡ true
unfolding homes right home_byte bits byte_of_sectors open-all
all_right = refl
