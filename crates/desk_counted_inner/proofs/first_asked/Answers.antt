-- `desk_counted_inner::first_asked` meets its contract.
use Rattle.words.proofs.Needs.{arith}
use Rattle.std.specs.Prelude.{Ok, Err}
use Rattle.refusal.specs.declared.Refusal.TheVariants.{Line}
use Rattle.desk_spec.specs.Answers.{FirstPrints}
use Rattle.desk_texts_inner.proofs.Putting.{put-good, put-bad}
use Rattle.desk_counts_inner.proofs.Asking.{no-counts, put-counts}
use Rattle.desk_counted_inner.proofs.first_asked.Goals as goal

pub returns-in_default : goal.returns-in_default
returns-in_default c = put-bad _ _ (no-counts c.args.t.now c.in_default.ensures) _

pub slice_bounds-word_counts-count : goal.slice_bounds-word_counts-count
slice_bounds-word_counts-count c = omega (arith, c.in-Some.ensures.1)

pub slice_bounds-word_counts-start : goal.slice_bounds-word_counts-start
slice_bounds-word_counts-start c = omega (arith, c.in-Some.ensures.1)

pub returns-in_default-word_counts : goal.returns-in_default-word_counts
returns-in_default-word_counts c =
    put-counts FirstPrints c.args.t.now _ _ c.in-Some.ensures _ c.args.at (Err Line) _ (put-bad _ _ c.in_default-word_counts.ensures _)

pub returns : goal.returns
returns c =
    put-counts FirstPrints c.args.t.now _ _ c.in-Some.ensures _ _ (Ok _) _ (put-good _ _ _ _ (Ok _) _ _ c.in-Some-word_counts.ensures.1 c.answer_first.ensures)
