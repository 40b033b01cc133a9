-- `set_program_inner::run` is safe: the output lies within the buffer.
use Rattle.words.proofs.Needs.{arith, length-take}
use Rattle.program_ending_inner.proofs.Unique.{say-within}
use Rattle.set_program_inner.proofs.Input.{input-inside}
use Rattle.set_program_inner.proofs.run.Goals as goal

pub slice_bounds-buf-end : goal.slice_bounds-buf-end
slice_bounds-buf-end c =
    omega (arith, input-inside _ _ _ _ _ c.read_most-most.result c.output_of_input-m.ensures, c.buffer-buf.ensures)

pub slice_bounds-write_all-end : goal.slice_bounds-write_all-end
slice_bounds-write_all-end c =
    let i = input-inside _ _ _ _ _ c.read_most-most.result c.output_of_input-m.ensures in
    simp length-take (omega (arith, i, c.buffer-buf.ensures))

pub slice_bounds-buf-end-2 : goal.slice_bounds-buf-end-2
slice_bounds-buf-end-2 c = omega (arith, say-within _ _ _ _ c.say-k.ensures, c.say-k.auto)

pub slice_bounds-write_all-end-2 : goal.slice_bounds-write_all-end-2
slice_bounds-write_all-end-2 c = simp length-take (omega (arith, say-within _ _ _ _ c.say-k.ensures, c.say-k.auto))
