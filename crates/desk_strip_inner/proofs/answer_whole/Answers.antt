-- `desk_strip_inner::answer_whole` meets its contract.
use Rattle.words.proofs.Needs.{refl}
use Rattle.std.specs.Prelude.{Ok, Err}
use Rattle.desk_texts_inner.proofs.Putting.{put-shown, shown-refused}
use Rattle.desk_strip_inner.proofs.answer_whole.Goals as goal

pub returns-in_err-write_strip : goal.returns-in_err-write_strip
returns-in_err-write_strip c =
    shown-refused _ _ (Err _, _) _ (rw c.requires.out_value at c.in_err-write_strip.ensures) refl _ c.from_residual.ensures.1 _ c.args.at

pub returns : goal.returns
returns c = put-shown _ _ (Ok _, _) (rw c.requires.out_value at c.in_ok-write_strip.ensures) _ _ _ _ c.place_written.ensures
