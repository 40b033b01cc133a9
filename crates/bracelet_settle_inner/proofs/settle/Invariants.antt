-- `bracelet_settle_inner::settle` meets its contract. The loop's invariant, `Settling`: the least shade that makes a bracelet is from low to high. Its measure, the
-- tries left and `halves`, bounds the tests: by seven where there are at most 16 shades (`halves-shades`).
use Rattle.words.proofs.Needs.{◌+◌, ◌-◌}
use Rattle.bracelet_settle_inner.proofs.Halves.{halves}
use Rattle.bracelet_settle_inner.proofs.Settling.{Settling}
use Rattle.bracelet_settle_inner.proofs.settle.Given as goal

abbrev pub invariant-loop-low : goal.invariant-loop-low
invariant-loop-low l = Settling l.initial.s l.m l.least l.top l.s l.low l.high

abbrev pub decreases-loop-low : goal.decreases-loop-low
decreases-loop-low l = l.tries + halves (l.high - l.low)
