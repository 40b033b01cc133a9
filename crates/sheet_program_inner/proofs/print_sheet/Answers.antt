-- `sheet_program_inner::print_sheet` is safe: what is printed was made ready.
use Rattle.words.proofs.Needs.{arith}
use Rattle.sheet_program_inner.proofs.Output.{ready_of}
use Rattle.sheet_program_inner.proofs.print_sheet.Goals as goal

pub prepare-job-requires : goal.prepare-job-requires
prepare-job-requires c = c.requires.input_in_bounds

pub print_job-requires : goal.print_job-requires
print_job-requires c = record { answer_ready = ready_of _ _ c.prepare-job.ensures; target_room_in_bounds = omega (arith, c.prepare-job.auto.ring, c.requires.target_room_in_bounds) }
