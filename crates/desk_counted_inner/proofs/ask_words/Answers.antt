-- `desk_counted_inner::ask_words` meets its contract.
use Rattle.words.proofs.Needs.{arith, length-take, length-drop}
use Rattle.desk_spec.specs.Answers.{AfterPrints}
use Rattle.desk_texts_inner.proofs.Putting.{put-bad}
use Rattle.desk_counts_inner.proofs.Asking.{no_words, put-words}
use Rattle.desk_counted_inner.proofs.ask_words.Goals as goal

pub returns-then-t-e : goal.returns-then-t-e
returns-then-t-e c =
    put-bad _ _ (no_words c.args.t.now c.piece_end-e.result c.piece_end-e.ensures c.if-t-e.true) _

pub slice_bounds-ask_ring-end : goal.slice_bounds-ask_ring-end
slice_bounds-ask_ring-end c = simp length-take (omega (arith, c.piece_end-e.ensures.within))

pub slice_bounds-ask_ring-end-4 : goal.slice_bounds-ask_ring-end-4
slice_bounds-ask_ring-end-4 c =
    simp length-take (omega (arith, c.piece_end-e.ensures.within, c.requires.t_in_bounds))

pub ask_ring-requires : goal.ask_ring-requires
ask_ring-requires c =
    record {
      s_len_bound = simp length-take (omega (arith, c.piece_end-e.ensures.within, c.requires.t_len_bound));
      t_len_bound = simp (length-take, length-drop) (omega (arith, c.requires.t_len_bound));
      w_len = simp length-take (omega (arith, c.piece_end-e.ensures.within, c.requires.t_in_bounds));
      desk_room_in_bounds = c.requires.desk_room_in_bounds;
    }

pub returns : goal.returns
returns c =
    put-words AfterPrints c.args.t.now c.args.k c.piece_end-e.result c.piece_end-e.ensures (omega (arith, c.if-t-e.false)) _ _ _ _ c.ask_ring.ensures
