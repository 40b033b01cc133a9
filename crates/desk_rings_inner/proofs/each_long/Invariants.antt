-- `desk_rings_inner::each_long` meets its contract: c characters of the word under way have been seen.
use Rattle.words.proofs.Needs.{◌≤◌, ◌≡◌, length, drop}
use Rattle.desk_rings_inner.proofs.Long.{long_from}
use Rattle.desk_rings_inner.proofs.each_long.Given as goal

abbrev pub invariant-loop-a : goal.invariant-loop-a
invariant-loop-a l = (l.a-index ≤ length l.u) × (l.c ≤ l.a-index) × (long_from l.n 0 l.u ≡ long_from l.n l.c (drop l.a-index l.u))
