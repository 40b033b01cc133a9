-- `listing_rows_inner::fill_rows` meets its contract. The loop's invariant, `Along`: what is placed so far is the beginning of the page, and the rings and moves are counted
-- right.
use Rattle.words.proofs.Needs.{◌-◌, ◌≡◌, true, length, take, drop}
use Rattle.listing_rows_inner.proofs.Loop.{Along}
use Rattle.listing_rows_inner.proofs.fill_rows.Given as goal

abbrev pub invariant-loop-at : goal.invariant-loop-at
invariant-loop-at l =
    Along l.n l.k (take l.n l.initial.ring) (drop l.n l.initial.ring) l.initial.rings l.initial.moves l.initial.buf l.from l.ring l.rings l.moves l.at l.buf × (l.more ≡ true)

abbrev pub decreases-loop-at : goal.decreases-loop-at
decreases-loop-at l = length l.buf - l.at
