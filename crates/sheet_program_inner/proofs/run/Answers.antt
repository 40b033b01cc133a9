-- `sheet_program_inner::run` is safe: what it says lies within the buffer.
use Rattle.words.proofs.Needs.{arith, length-take}
use Rattle.program_ending_inner.proofs.Unique.{say-within}
use Rattle.sheet_program_inner.proofs.run.Goals as goal

pub print_input-wrote-requires : goal.print_input-wrote-requires
print_input-wrote-requires c =
    record {
      most_says = c.read_most-most.ensures;
      input_in_bounds = omega (arith, c.read_most-most.auto, c.large_buffer-input.ensures, c.large_buffer-buf.ensures);
      target_room_in_bounds = omega (arith, c.large_buffer-buf.ensures);
    }

pub slice_bounds-buf-end : goal.slice_bounds-buf-end
slice_bounds-buf-end c = omega (arith, say-within _ _ _ _ c.say-k.ensures, c.say-k.auto)

pub slice_bounds-write_all-end : goal.slice_bounds-write_all-end
slice_bounds-write_all-end c = simp length-take (omega (arith, say-within _ _ _ _ c.say-k.ensures, c.say-k.auto))
