-- `desk_sight_inner::answer_sight` meets its contract.
use Rattle.words.proofs.Needs.{arith, refl, length-take}
use Rattle.std.specs.Prelude.{Ok, Err}
use Rattle.desk_texts_inner.proofs.Putting.{put-shown, shown-refused}
use Rattle.desk_sight_inner.proofs.answer_sight.Goals as goal

pub slice_bounds-tell-end : goal.slice_bounds-tell-end
slice_bounds-tell-end c = simp length-take (omega (arith, c.requires))

pub returns-in_err-a : goal.returns-in_err-a
returns-in_err-a c = shown-refused _ _ (Err _) _ c.in_err-a.ensures refl _ c.from_residual.ensures.1 _ c.args.at

pub returns : goal.returns
returns c = put-shown _ _ (Ok _) c.in_ok-a.ensures _ _ _ _ c.place_sighting.ensures
