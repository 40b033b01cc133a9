-- `desk_steps_inner::answer_bracelet` meets its contract.
use Rattle.words.proofs.Needs.{ℕ, refl, subst, List}
use Rattle.std.specs.Prelude.{Ok, Err}
use Rattle.walk_reading_spec.specs.Says.{BraceletFromSays}
use Rattle.desk_texts_inner.proofs.Putting.{put-shown, shown-refused}
use Rattle.desk_steps_inner.proofs.Rings.{ring-short}
use Rattle.desk_steps_inner.proofs.answer_bracelet.Goals as goal

pub returns-in_err-a : goal.returns-in_err-a
returns-in_err-a c =
    shown-refused _ _ (Err _, _) _ (rw c.requires.out_value at c.in_err-a.ensures) refl _ c.from_residual.ensures.1 _ c.args.at

pub place_arrival-requires : goal.place_arrival-requires
place_arrival-requires c =
    record {
      ring_len_bound = ring-short c.args.w.now _ _ c.requires.w_len_bound c.requires.out_value c.next_bracelet.auto.out;
      desk_room_in_bounds = c.requires.desk_room_in_bounds;
    }

pub returns : goal.returns
returns c =
    let s = subst (λ (o : List ℕ). BraceletFromSays c.args.w.now c.args.k o (Ok c.in_ok-a.a) c.next_bracelet.new.out) c.requires.out_value c.in_ok-a.ensures in
    put-shown _ _ (Ok _, _) s _ _ _ _ c.place_arrival.ensures
