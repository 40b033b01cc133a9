-- `sheet_program_inner::print_wrong` is safe: the line lies within the buffer.
use Rattle.words.proofs.Needs.{arith, length-take}
use Rattle.sheet_program_inner.proofs.Output.{wrong-inside}
use Rattle.sheet_program_inner.proofs.print_wrong.Goals as goal

pub place_refused_line-m-requires : goal.place_refused_line-m-requires
place_refused_line-m-requires c = omega (arith, c.requires)

pub slice_bounds-write_all-end : goal.slice_bounds-write_all-end
slice_bounds-write_all-end c =
    let l = wrong-inside c.args.buf.now _ _ _ c.requires c.place_refused_line-m.ensures.placed c.place_refused_line-m.ensures.upper_bound in
    omega (arith, l)

pub slice_bounds-write_all-end-2 : goal.slice_bounds-write_all-end-2
slice_bounds-write_all-end-2 c =
    let l = wrong-inside c.args.buf.now _ _ _ c.requires c.place_refused_line-m.ensures.placed c.place_refused_line-m.ensures.upper_bound in
    simp length-take (omega (arith, l))
