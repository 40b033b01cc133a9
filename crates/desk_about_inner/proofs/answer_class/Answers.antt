-- `desk_about_inner::answer_class` meets its contract.
use Rattle.words.proofs.Needs.{refl}
use Rattle.std.specs.Prelude.{Ok, Err}
use Rattle.desk_texts_inner.proofs.Putting.{put-shown, shown-refused}
use Rattle.desk_about_inner.proofs.answer_class.Goals as goal

pub returns-in_err-c : goal.returns-in_err-c
returns-in_err-c c = shown-refused _ _ (Err _) _ c.in_err-c.ensures refl _ c.from_residual.ensures.1 _ c.args.at

pub returns : goal.returns
returns c = put-shown _ _ (Ok _) c.in_ok-c.ensures _ _ _ _ c.place_class.ensures
