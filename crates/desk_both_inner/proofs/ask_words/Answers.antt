-- `desk_both_inner::ask_words` meets its contract.
use Rattle.words.proofs.Needs.{arith, length-take, length-drop}
use Rattle.desk_texts_inner.proofs.Putting.{put-bad}
use Rattle.desk_words_inner.proofs.Shapes.{no_both, put_both}
use Rattle.desk_both_inner.proofs.ask_words.Goals as goal

pub returns-then-t-e : goal.returns-then-t-e
returns-then-t-e c =
    put-bad _ _ (no_both c.args.v c.args.k c.args.t.now c.piece_end-e.result c.piece_end-e.ensures c.if-t-e.true) _

pub slice_bounds-ask_both-end : goal.slice_bounds-ask_both-end
slice_bounds-ask_both-end c = simp length-take (omega (arith, c.piece_end-e.ensures.within))

pub slice_bounds-ask_both-end-4 : goal.slice_bounds-ask_both-end-4
slice_bounds-ask_both-end-4 c =
    simp length-take (omega (arith, c.requires.t_in_bounds, c.piece_end-e.ensures.within))

pub slice_bounds-ask_both-end-6 : goal.slice_bounds-ask_both-end-6
slice_bounds-ask_both-end-6 c = simp length-take (omega (arith, c.requires.t_in_bounds_2))

pub ask_both-requires : goal.ask_both-requires
ask_both-requires c =
    record {
      a_len = simp length-take (omega (arith, c.requires.t_in_bounds, c.piece_end-e.ensures.within));
      b_len = simp (length-take, length-drop) (omega (arith, c.requires.t_in_bounds_2));
      desk_room_in_bounds = c.requires.desk_room_in_bounds;
    }

pub returns : goal.returns
returns c =
    put_both c.args.v c.args.k c.args.t.now c.piece_end-e.result c.piece_end-e.ensures (omega (arith, c.if-t-e.false)) _ _ _ _
    c.ask_both.ensures
