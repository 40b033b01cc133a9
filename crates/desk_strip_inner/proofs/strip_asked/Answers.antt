-- `desk_strip_inner::strip_asked` meets its contract.
use Rattle.desk_texts_inner.proofs.Putting.{put-good, put-bad}
use Rattle.desk_words_inner.proofs.Shapes.{no-numbers, numbers}
use Rattle.desk_strip_inner.proofs.strip_asked.Goals as goal

pub returns-in_default : goal.returns-in_default
returns-in_default c = put-bad _ _ (no-numbers c.args.t.now c.in_default.ensures) _

pub returns : goal.returns
returns c =
    put-good _ _ _ _ _ _ (c.in-Some.k, c.in-Some.n) (numbers c.args.t.now c.in-Some.k c.in-Some.n c.in-Some.ensures) c.answer_strip.ensures
