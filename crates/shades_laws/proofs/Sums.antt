-- Sums of the first counts of a list.
use Rattle.words.proofs.Plain.{ℕ, zero, suc, ◌+◌, ◌-◌, ◌<◌, ◌≤◌, arith, ◌≡◌, refl, sym, ap, ◌∙◌, List, [], ◌∷◌, ◌++◌, length, get_or, take, drop, take-suc}
use Rattle.words.proofs.Plain.{take-add}
use Rattle.words.specs.Sum.{sum_of}

-- lengths one behind the other add up
pub sum-append : (ls ms : List ℕ) → sum_of (ls ++ ms) ≡ sum_of ls + sum_of ms
unfolding sum_of
sum-append [] ms = omega arith
sum-append (l ∷ ls) ms = omega (arith, sum-append ls ms)

-- one length more
pub sum-take-suc : (ls : List ℕ) (i : ℕ) → i < length ls → sum_of (take (suc i) ls) ≡ sum_of (take i ls) + get_or ls i 0
unfolding sum_of
sum-take-suc ls i h = rw (take-suc ls i 0 h, sum-append) (omega arith)

-- fewer lengths have no greater sum
pub sum-take-le : (ls : List ℕ) (i j : ℕ) → i ≤ j → sum_of (take i ls) ≤ sum_of (take j ls)
unfolding sum_of
sum-take-le ls zero j h = omega arith
sum-take-le [] (suc i) j h = omega arith
sum-take-le (l ∷ ls) (suc i) zero h = absurd (omega arith)
sum-take-le (l ∷ ls) (suc i) (suc j) h = omega (arith, sum-take-le ls i j (omega arith))
