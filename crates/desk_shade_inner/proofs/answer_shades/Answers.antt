-- `desk_shade_inner::answer_shades` meets its contract.
use Rattle.words.proofs.Needs.{◌-◌, arith, sym, ap, ◌∙◌, length, length-take, length-drop}
use Rattle.desk_spec.specs.Answers.{blank}
use Rattle.desk_words_inner.proofs.Shapes.{take-blank}
use Rattle.desk_shade_inner.proofs.answer_shades.Goals as goal

pub slice_bounds-answer_ring-end : goal.slice_bounds-answer_ring-end
slice_bounds-answer_ring-end c = simp length-take (omega (arith, c.requires.xs_len_bound))

pub answer_ring-requires : goal.answer_ring-requires
answer_ring-requires c =
    let e = take-blank (length c.args.xs.now - 2) 512 (omega (arith, c.requires.xs_len_bound)) ∙ ap blank (sym (length-drop 2 c.args.xs.now)) in
    record {
      in_bounds = omega (arith, c.if-xs-eq3.false, c.requires.in_bounds);
      out_len_bound = simp length-take (omega (arith, c.requires.xs_len_bound));
      out_value = e;
      desk_room_in_bounds = c.requires.desk_room_in_bounds;
    }
