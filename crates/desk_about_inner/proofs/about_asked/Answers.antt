-- `desk_about_inner::about_asked` meets its contract.
use Rattle.words.proofs.Needs.{arith, length-take}
use Rattle.desk_spec.specs.Answers.{AboutSays}
use Rattle.desk_texts_inner.proofs.Putting.{put-bad}
use Rattle.desk_words_inner.proofs.Shapes.{no-reading, put-reading, ask-room}
use Rattle.desk_about_inner.proofs.about_asked.Goals as goal

pub overflow_sub-n : goal.overflow_sub-n
overflow_sub-n c = omega (arith, c.in-Some.ensures.1)

pub slice_bounds-ask_about-count : goal.slice_bounds-ask_about-count
slice_bounds-ask_about-count c = omega (arith, c.in-Some.ensures.1)

pub slice_bounds-ask_about-start : goal.slice_bounds-ask_about-start
slice_bounds-ask_about-start c = omega (arith, c.in-Some.ensures.1)

pub slice_bounds-ask_about-end-2 : goal.slice_bounds-ask_about-end-2
slice_bounds-ask_about-end-2 c = simp length-take (omega (arith, c.requires.t_len_bound))

pub ask_about-requires : goal.ask_about-requires
ask_about-requires c =
    let q = ask-room c.args.t.now c.in-Some.e c.requires.t_len_bound in record { t_len_bound = q.0; w_len = q.1; out_value = q.2; desk_room_in_bounds = c.requires.desk_room_in_bounds }

pub returns-in_default : goal.returns-in_default
returns-in_default c = put-bad _ _ (no-reading c.args.t.now c.in_default.ensures) _

pub returns : goal.returns
returns c =
    put-reading c.args.t.now c.in-Some.k _ c.in-Some.ensures (AboutSays c.args.v) _ _ _ _ c.ask_about.ensures
