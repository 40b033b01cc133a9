-- `sheet_program_inner::print_rings` is safe: what is printed is ready.
use Rattle.words.proofs.Needs.{arith}
use Rattle.sheet_program_inner.proofs.Output.{lines-ready}
use Rattle.sheet_program_inner.proofs.print_rings.Goals as goal

pub print_targets-requires : goal.print_targets-requires
print_targets-requires c = record { ready_set = rw c.in-Set.is at c.requires.rings_ready; target_room_in_bounds = c.requires.target_room_in_bounds }

pub slice_bounds-print_lines-count : goal.slice_bounds-print_lines-count
slice_bounds-print_lines-count c = let r = rw c.in-Own.is at c.requires.rings_ready in omega (arith, r.0)

pub slice_bounds-print_lines-start : goal.slice_bounds-print_lines-start
slice_bounds-print_lines-start c = let r = rw c.in-Own.is at c.requires.rings_ready in omega (arith, r.0)

pub print_lines-requires : goal.print_lines-requires
print_lines-requires c =
    let r = rw c.in-Own.is at c.requires.rings_ready in
    record { ready_own = lines-ready c.args.input.now c.args.job.sheet c.in-Own.from c.in-Own.count r.1; target_room_in_bounds = c.requires.target_room_in_bounds }
