-- `desk_shade_inner::shade_asked` meets its contract.
use Rattle.words.proofs.Needs.{arith}
use Rattle.desk_texts_inner.proofs.Putting.{put-bad}
use Rattle.desk_shade_inner.proofs.Asking.{no-shade, put-shade}
use Rattle.desk_shade_inner.proofs.shade_asked.Goals as goal

pub returns-in_default : goal.returns-in_default
returns-in_default c = put-bad _ _ (no-shade c.args.t.now c.in_default.ensures) _

pub slice_bounds-ask_shade-count : goal.slice_bounds-ask_shade-count
slice_bounds-ask_shade-count c = omega (arith, c.in-Some.ensures.1)

pub slice_bounds-ask_shade-start : goal.slice_bounds-ask_shade-start
slice_bounds-ask_shade-start c = omega (arith, c.in-Some.ensures.1)

pub returns : goal.returns
returns c = put-shade c.args.t.now _ _ c.in-Some.ensures _ _ _ _ c.ask_shade.ensures
