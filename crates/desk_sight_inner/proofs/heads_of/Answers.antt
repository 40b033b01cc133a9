-- `desk_sight_inner::heads_of` meets its contract.
use Rattle.words.proofs.Needs.{arith}
use Rattle.desk_sight_inner.proofs.Asking.{no-head, no_second, both-heads}
use Rattle.desk_sight_inner.proofs.heads_of.Goals as goal

pub returns-in_err-k : goal.returns-in_err-k
returns-in_err-k c = rw c.from_residual.ensures (no-head c.args.t.now c.in_err-k.ensures)

pub slice_bounds-head_of-count : goal.slice_bounds-head_of-count
slice_bounds-head_of-count c = omega (arith, c.in_ok-k.ensures.1)

pub slice_bounds-head_of-start : goal.slice_bounds-head_of-start
slice_bounds-head_of-start c = omega (arith, c.in_ok-k.ensures.1)

pub returns-in_err-most : goal.returns-in_err-most
returns-in_err-most c =
    rw c.from_residual-in_err-most.ensures (no_second c.args.t.now _ _ c.in_ok-k.ensures c.in_err-most.ensures)

pub overflow_add-result : goal.overflow_add-result
overflow_add-result c =
    let h = both-heads c.args.t.now _ _ c.in_ok-k.ensures _ _ c.in_ok-most.ensures in omega (arith, h.2)

pub returns : goal.returns
returns c = both-heads c.args.t.now _ _ c.in_ok-k.ensures _ _ c.in_ok-most.ensures
