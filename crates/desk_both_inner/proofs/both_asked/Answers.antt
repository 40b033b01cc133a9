-- `desk_both_inner::both_asked` meets its contract.
use Rattle.words.proofs.Needs.{arith}
use Rattle.desk_texts_inner.proofs.Putting.{put-bad}
use Rattle.desk_words_inner.proofs.Shapes.{no-pair, put-pair}
use Rattle.desk_both_inner.proofs.both_asked.Goals as goal

pub slice_bounds-ask_words-count : goal.slice_bounds-ask_words-count
slice_bounds-ask_words-count c = omega (arith, c.in-Some.ensures.1)

pub slice_bounds-ask_words-start : goal.slice_bounds-ask_words-start
slice_bounds-ask_words-start c = omega (arith, c.in-Some.ensures.1)

pub returns-in_default : goal.returns-in_default
returns-in_default c =
    put-bad _ _ (no-pair c.args.t.now c.in_default.ensures) _

pub returns : goal.returns
returns c =
    put-pair c.args.v c.in-Some.k c.args.t.now c.in-Some.k _ c.in-Some.ensures _ _ _ _
    c.ask_words.ensures
