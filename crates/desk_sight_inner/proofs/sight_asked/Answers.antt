-- `desk_sight_inner::sight_asked` meets its contract.
use Rattle.words.proofs.Needs.{arith}
use Rattle.desk_texts_inner.proofs.Putting.{put-bad}
use Rattle.desk_sight_inner.proofs.Asking.{no-sight, put-sight}
use Rattle.desk_sight_inner.proofs.sight_asked.Goals as goal

pub returns-in_default : goal.returns-in_default
returns-in_default c = put-bad _ _ (no-sight c.args.t.now c.in_default.ensures) _

pub slice_bounds-ask_sight-count : goal.slice_bounds-ask_sight-count
slice_bounds-ask_sight-count c = omega (arith, c.in-Some.ensures.2)

pub slice_bounds-ask_sight-start : goal.slice_bounds-ask_sight-start
slice_bounds-ask_sight-start c = omega (arith, c.in-Some.ensures.2)

pub returns : goal.returns
returns c = put-sight c.args.t.now _ _ _ c.in-Some.ensures _ _ _ _ c.ask_sight.ensures
