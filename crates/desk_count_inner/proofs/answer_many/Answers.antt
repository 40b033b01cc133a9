-- `desk_count_inner::answer_many` meets its contract.
use Rattle.words.proofs.Needs.{refl}
use Rattle.std.specs.Prelude.{Ok, Err}
use Rattle.desk_texts_inner.proofs.Putting.{put-shown, shown-refused}
use Rattle.desk_count_inner.proofs.answer_many.Goals as goal

-- the refusal of one kind's count is that of the other's
pub returns-in_err-a : goal.returns-in_err-a
returns-in_err-a c = shown-refused _ _ (Err _, Err _) _ (c.in_err-a.ensures, c.in_err-a.ensures) refl _ c.from_residual.ensures.1 _ c.args.at

pub returns : goal.returns
returns c = put-shown _ _ (Ok _, Ok _) (c.in_ok-a.ensures, c.in_ok-b.ensures) _ _ _ _ c.place_many.ensures
