-- `sheet_program_inner::print_refusal` is safe: the line lies within the buffer.
use Rattle.words.proofs.Needs.{arith, length-take}
use Rattle.sheet_program_inner.proofs.Output.{line-inside}
use Rattle.sheet_program_inner.proofs.print_refusal.Goals as goal

pub place_refusal-m-requires : goal.place_refusal-m-requires
place_refusal-m-requires c = omega (arith, c.requires)

pub slice_bounds-write_all-end : goal.slice_bounds-write_all-end
slice_bounds-write_all-end c =
    let l = line-inside c.args.buf.now _ _ _ c.requires c.place_refusal-m.ensures in
    omega (arith, l)

pub slice_bounds-write_all-end-2 : goal.slice_bounds-write_all-end-2
slice_bounds-write_all-end-2 c =
    let l = line-inside c.args.buf.now _ _ _
    c.requires c.place_refusal-m.ensures in
    simp length-take (omega (arith, l))
