-- Necklaces, periods and Lyndon words (000, section 1.1; 001, Definition 1; 01, 'Rules the work stands on').
use Rattle.std.specs.Prelude.{ℕ, suc, ◌-◌, ◌%◌, Bool, ◌&&◌, List, length, eqb}
use Rattle.words.specs.Search.{all_below, least}
use Rattle.words.specs.Order.{before, up_to, same}
use Rattle.words.specs.Turn.{turn}

-- w is not greater than its turn by i
unfoldable pub not_above_turn : List ℕ → ℕ → Bool
not_above_turn w i = up_to w (turn i w)

-- a necklace: not greater than any of its turns
unfoldable pub necklace : List ℕ → Bool
necklace w = all_below (length w) (not_above_turn w)

-- p divides the length, and turning by p changes nothing
unfoldable pub repeats_by : List ℕ → ℕ → Bool
repeats_by w p = eqb (length w % p) 0 && same (turn p w) w

-- the period: the smallest p of at least 1 that divides n and by which turning changes nothing
unfoldable pub period : List ℕ → ℕ
period w = suc (least (length w) (λ i. repeats_by w (suc i)))

-- a Lyndon word: a necklace whose period is its length
unfoldable pub lyndon : List ℕ → Bool
lyndon w = necklace w && eqb (period w) (length w)

-- the other form of a Lyndon word: below each of its other turns. proofs of `ring_laws`, Lyndon: the two agree
unfoldable pub below_other_turns : List ℕ → Bool
below_other_turns w = all_below (length w - 1) (λ i. before w (turn (suc i) w))
