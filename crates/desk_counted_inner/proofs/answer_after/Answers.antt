-- `desk_counted_inner::answer_after` meets its contract.
use Rattle.words.proofs.Needs.{arith, length, length-take}
use Rattle.desk_words_inner.proofs.Shapes.{take-blank}
use Rattle.desk_counted_inner.proofs.answer_after.Goals as goal

pub slice_bounds-answer_in-end : goal.slice_bounds-answer_in-end
slice_bounds-answer_in-end c = simp length-take (omega (arith, c.requires.w_len_bound))

pub answer_in-requires : goal.answer_in-requires
answer_in-requires c =
    record {
      out_len_bound = simp length-take (omega (arith, c.requires.w_len_bound));
      out_value = take-blank (length c.args.w.now) 4095 c.requires.w_len_bound;
      desk_room_in_bounds = c.requires.desk_room_in_bounds;
    }
