-- `listing_program_inner::run` is safe and ends.
use Rattle.words.proofs.Needs.{arith, length-take}
use Rattle.program_ending_inner.proofs.Unique.{say-within}
use Rattle.listing_program_inner.proofs.Turns.{input-turning}
use Rattle.listing_program_inner.proofs.run.Goals as goal

pub print_pages-left-requires : goal.print_pages-left-requires
print_pages-left-requires c =
    let t = input-turning c.read_most-most.result _ _ _ _ c.first_of_input-first.ensures in record { row_room_in_bounds = omega (arith, t.0, c.large_buffer-buf.ensures); turning = rw t.0 t.1 }

pub slice_bounds-buf-end : goal.slice_bounds-buf-end
slice_bounds-buf-end c = omega (arith, say-within _ _ _ _ c.say-m.ensures, c.say-m.auto)

pub slice_bounds-write_all-end : goal.slice_bounds-write_all-end
slice_bounds-write_all-end c = simp length-take (omega (arith, say-within _ _ _ _ c.say-m.ensures, c.say-m.auto))
