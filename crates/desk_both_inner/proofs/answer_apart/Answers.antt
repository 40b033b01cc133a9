-- `desk_both_inner::answer_apart` meets its contract.
use Rattle.words.proofs.Needs.{refl}
use Rattle.std.specs.Prelude.{Ok, Err}
use Rattle.desk_texts_inner.proofs.Putting.{put-shown, shown-refused}
use Rattle.desk_both_inner.proofs.answer_apart.Goals as goal

pub returns-in_err-d : goal.returns-in_err-d
returns-in_err-d c = shown-refused _ _ (Err _) _ c.in_err-d.ensures refl _ c.from_residual.ensures.1 _ c.args.at

pub returns : goal.returns
returns c = put-shown _ _ (Ok _) c.in_ok-d.ensures _ _ _ _ c.place_distance.ensures
