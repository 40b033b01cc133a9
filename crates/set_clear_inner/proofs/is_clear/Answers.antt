-- `set_clear_inner::is_clear` meets its contract. The ring is at least d apart from the readings in the places from j on.
use Rattle.words.proofs.Needs.{◌<◌, ◌-◌, arith}
use Rattle.set_clear_inner.proofs.Clear.{clear-all, place-room, part-asked, clear-ends}
use Rattle.set_clear_inner.proofs.is_clear.Goals as goal
use Rattle.set_clear_inner.proofs.is_clear.Goals.{In-loop-j}

-- inside the loop the place in front of j is one that is taken
inside : (c : In-loop-j) → c.loop-j.j - 1 < c.args.taken
inside c = omega (arith, c.loop-j.auto.j, c.loop-j-test.true)

pub slice_bounds-place-end : goal.slice_bounds-place-end
slice_bounds-place-end c = omega (arith, place-room c.requires _ (inside (goal.at.slice_bounds-place-end c).In-loop-j))

pub is_far-requires-clause-passed : goal.is_far-requires-clause-passed
is_far-requires-clause-passed c = (part-asked c.requires _ (inside (goal.at.is_far-requires-clause-passed c).In-loop-j)).0

pub is_far-requires-clause-ca_value : goal.is_far-requires-clause-ca_value
is_far-requires-clause-ca_value c = (part-asked c.requires _ (inside (goal.at.is_far-requires-clause-ca_value c).In-loop-j)).1.0

pub returns-then-not-is_far : goal.returns-then-not-is_far
returns-then-not-is_far c =
    clear-ends c.requires _ (inside (goal.at.returns-then-not-is_far c).In-loop-j) c.args.d c.is_far.ensures c.if-not-is_far.true

pub returns : goal.returns
returns c = clear-all c.loop-j.invariant (omega (arith, c.loop-j-test.false))
