-- `check_numbers_inner::first_bad` meets its contract. Where no sector is above one that is below the limit, all are. The loop's invariant: the sectors passed
-- are below the limit.
use Rattle.words.proofs.Needs.{ℕ, ◌<◌, get_or}
use Rattle.check_numbers_inner.proofs.first_bad.Given as goal

abbrev pub invariant-loop-i : goal.invariant-loop-i
invariant-loop-i l = (j : ℕ) → j < l.i → get_or l.s j 0 < l.limit
