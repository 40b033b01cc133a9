-- `desk_first_inner::answer_in` meets its contract.
use Rattle.words.proofs.Needs.{refl}
use Rattle.std.specs.Prelude.{Ok, Err}
use Rattle.desk_texts_inner.proofs.Putting.{put-shown, shown-refused}
use Rattle.desk_first_inner.proofs.answer_in.Goals as goal

pub returns-in_err-first_ring : goal.returns-in_err-first_ring
returns-in_err-first_ring c = shown-refused _ _ (Err _, _) _ c.in_err-first_ring.ensures refl _ c.from_residual.ensures.1 _ c.args.at

pub returns : goal.returns
returns c = put-shown _ _ (Ok _, _) c.in_ok-first_ring.ensures _ _ _ _ c.place_ring.ensures
