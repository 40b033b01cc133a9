-- `desk_counted_inner::after_asked` meets its contract.
use Rattle.words.proofs.Needs.{arith}
use Rattle.desk_spec.specs.Answers.{AfterPrints}
use Rattle.desk_texts_inner.proofs.Putting.{put-bad}
use Rattle.desk_counts_inner.proofs.Asking.{no-after, put-after}
use Rattle.desk_counted_inner.proofs.after_asked.Goals as goal

pub returns-in_default : goal.returns-in_default
returns-in_default c = put-bad _ _ (no-after c.args.t.now c.in_default.ensures) _

pub slice_bounds-ask_words-count : goal.slice_bounds-ask_words-count
slice_bounds-ask_words-count c = omega (arith, c.in-Some.ensures.1)

pub slice_bounds-ask_words-start : goal.slice_bounds-ask_words-start
slice_bounds-ask_words-start c = omega (arith, c.in-Some.ensures.1)

pub returns : goal.returns
returns c = put-after AfterPrints c.args.t.now _ _ c.in-Some.ensures _ _ _ _ c.ask_words.ensures
