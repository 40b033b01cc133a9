-- `sheet_program_inner::print_input` is safe: what was read lies within the buffer.
use Rattle.words.proofs.Needs.{arith, length-take}
use Rattle.program_reading_inner.specs.{declared.Most.TheVariants.Ended, Says.MostSays}
use Rattle.sheet_program_inner.proofs.print_input.Goals as goal

pub slice_bounds-print_sheet-end : goal.slice_bounds-print_sheet-end
slice_bounds-print_sheet-end c =
    let m : MostSays (Ended c.in-Ended.got) c.args.input.now = rw c.in-Ended.is at c.requires.most_says in
    simp length-take (omega (arith, m))

pub print_sheet-requires : goal.print_sheet-requires
print_sheet-requires c =
    let m : MostSays (Ended c.in-Ended.got) c.args.input.now = rw c.in-Ended.is at c.requires.most_says in
    record { input_in_bounds = simp length-take (omega (arith, m, c.requires.input_in_bounds)); target_room_in_bounds = c.requires.target_room_in_bounds }
