-- `desk_inner::answer_line` meets its contract.
use Rattle.desk_texts_inner.proofs.Putting.{put-bad}
use Rattle.desk_inner.proofs.Lines.{line-long, line-alone}
use Rattle.desk_inner.proofs.answer_line.Goals as goal

pub returns-then-line-gt4095 : goal.returns-then-line-gt4095
returns-then-line-gt4095 c = put-bad _ _ (line-long c.args.line.now c.if-line-gt4095.true) _

pub returns-then-line-e : goal.returns-then-line-e
returns-then-line-e c =
    put-bad _ _ (line-alone c.args.line.now c.piece_end-e.result c.piece_end-e.ensures c.if-line-e.true) _
