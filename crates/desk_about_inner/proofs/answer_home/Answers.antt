-- `desk_about_inner::answer_home` meets its contract.
use Rattle.words.proofs.Needs.{arith, refl, ap, ◌∙◌, length, length-replicate}
use Rattle.std.specs.Prelude.{Ok, Err}
use Rattle.desk_texts_inner.proofs.Putting.{put-shown, shown-refused}
use Rattle.desk_about_inner.proofs.answer_home.Goals as goal

pub returns-in_err-h : goal.returns-in_err-h
returns-in_err-h c =
    shown-refused _ _ (Err _, _) _ (rw c.requires.out_value at c.in_err-h.ensures) refl _ c.from_residual.ensures.1 _ c.args.at

pub place_homed-requires : goal.place_homed-requires
place_homed-requires c =
    record {
      ring_len_bound = omega (
        arith,
        c.bring_home.auto,
        ap length c.requires.out_value ∙ length-replicate (length c.args.w.now) 0,
        c.requires.w_len_bound,
      );
      desk_room_in_bounds = c.requires.desk_room_in_bounds;
    }

pub returns : goal.returns
returns c =
    put-shown _ _ (Ok _, _) (rw c.requires.out_value at c.in_ok-h.ensures) _ _ _ _ c.place_homed.ensures
