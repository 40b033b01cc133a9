-- `desk_shade_inner::ask_shade` meets its contract.
use Rattle.words.proofs.Needs.{arith, length-take, not-true, not-false}
use Rattle.desk_texts_inner.proofs.Putting.{put-bad}
use Rattle.desk_shade_inner.proofs.Asking.{no_floats, no-eight, spelt-floats, put-floats}
use Rattle.desk_shade_inner.proofs.ask_shade.Goals as goal

pub returns-in_default : goal.returns-in_default
returns-in_default c = put-bad _ _ (no_floats _ c.in_default.ensures) _

pub all_eight-requires : goal.all_eight-requires
all_eight-requires c = c.in-Some.ensures.order

pub returns-then-not-all_eight : goal.returns-then-not-all_eight
returns-then-not-all_eight c =
    put-bad _ _ (no-eight _ _ _ _ c.in-Some.ensures (rw (not-true c.all_eight.result c.if-not-all_eight.true-raw) at c.all_eight.ensures)) _

pub slice_bounds-answer_digits-end : goal.slice_bounds-answer_digits-end
slice_bounds-answer_digits-end c = c.in-Some.ensures.room

pub slice_bounds-answer_digits-end-2 : goal.slice_bounds-answer_digits-end-2
slice_bounds-answer_digits-end-2 c = simp length-take (omega (arith, c.in-Some.ensures.room))

pub answer_digits-requires : goal.answer_digits-requires
answer_digits-requires c =
    let f = spelt-floats _ _ _ _ c.in-Some.ensures (rw (not-false c.all_eight.result c.if-not-all_eight.false-raw) at c.all_eight.ensures) in
    record {
      in_bounds = f.0;
      s_len_bound = omega (arith, f.1, c.in-Some.ensures.room, c.spell_words.auto, c.requires.s_len_bound);
      nibbles = f.2;
      desk_room_in_bounds = c.requires.desk_room_in_bounds;
    }

pub returns : goal.returns
returns c =
    put-floats _ _ _ _ c.in-Some.ensures (rw (not-false c.all_eight.result c.if-not-all_eight.false-raw) at c.all_eight.ensures) _ _ _ _ _ c.answer_digits.ensures
