-- `desk_about_inner::answer_place` meets its contract.
use Rattle.words.proofs.Needs.{refl}
use Rattle.std.specs.Prelude.{Ok, Err}
use Rattle.desk_texts_inner.proofs.Putting.{put-shown, shown-refused}
use Rattle.desk_about_inner.proofs.answer_place.Goals as goal

pub returns-in_err-p : goal.returns-in_err-p
returns-in_err-p c = shown-refused _ _ (Err _) _ c.in_err-p.ensures refl _ c.from_residual.ensures.1 _ c.args.at

pub returns : goal.returns
returns c = put-shown _ _ (Ok _) c.in_ok-p.ensures _ _ _ _ c.place_position.ensures
