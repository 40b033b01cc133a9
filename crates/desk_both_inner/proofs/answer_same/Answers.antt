-- `desk_both_inner::answer_same` meets its contract.
use Rattle.words.proofs.Needs.{refl}
use Rattle.std.specs.Prelude.{Ok, Err}
use Rattle.desk_texts_inner.proofs.Putting.{put-shown, shown-refused}
use Rattle.desk_both_inner.proofs.answer_same.Goals as goal

pub returns-in_err-yes : goal.returns-in_err-yes
returns-in_err-yes c = shown-refused _ _ (Err _) _ c.in_err-yes.ensures refl _ c.from_residual.ensures.1 _ c.args.at

pub returns : goal.returns
returns c = put-shown _ _ (Ok _) c.in_ok-yes.ensures _ _ _ _ c.place_told.ensures
