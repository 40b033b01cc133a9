-- `picture_print_inner::print_input` meets its contract.
use Rattle.words.proofs.Needs.{arith, length-take}
use Rattle.picture_words_inner.proofs.Words.{print-bad}
use Rattle.picture_print_inner.proofs.Printing.{put-input, no_line}
use Rattle.picture_print_inner.proofs.print_input.Goals as goal

pub returns-then-s-e-gt1 : goal.returns-then-s-e-gt1
returns-then-s-e-gt1 c =
    print-bad _ _ _ _ _ (no_line c.args.s.now _
    c.piece_end-e.ensures c.if-s-e-gt1.true)
    c.place_malformed.ensures

pub slice_bounds-print_line-end : goal.slice_bounds-print_line-end
slice_bounds-print_line-end c = simp length-take (omega (arith, c.piece_end-e.ensures.within))

pub print_line-requires : goal.print_line-requires
print_line-requires c = record {
  l_in_bounds = simp length-take (omega (
    arith,
    c.requires.s_in_bounds,
    c.piece_end-e.ensures.within,
  ));
  picture_room_in_bounds = c.requires.picture_room_in_bounds;
}

pub returns : goal.returns
returns c =
    put-input c.args.s.now _ c.piece_end-e.ensures
    c.if-s-e-gt1.false _ _ _ c.print_line.ensures
