-- `check_numbers_inner::greatest` meets its contract. The loop's invariant: no sector passed is above `top`.
use Rattle.words.proofs.Needs.{ℕ, ◌≤◌, ◌<◌, get_or}
use Rattle.check_numbers_inner.proofs.greatest.Given as goal

abbrev pub invariant-loop-here : goal.invariant-loop-here
invariant-loop-here l = (j : ℕ) → j < l.here-index → get_or l.s j 0 ≤ l.top
