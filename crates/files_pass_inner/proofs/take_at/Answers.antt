-- `files_pass_inner::take_at` meets its contract: what was read is gone through.
use Rattle.words.proofs.Needs.{arith, ap, length-take}
use Rattle.program_passes_inner.specs.Passes.Course.{Stopped}
use Rattle.program_passes_inner.proofs.Courses.{part-read, part-within}
use Rattle.files_pass_inner.specs.Says.FileAtSays.{unread, read}
use Rattle.files_pass_inner.proofs.take_at.Goals as goal

pub slice_bounds-take_block-end : goal.slice_bounds-take_block-end
slice_bounds-take_block-end c = omega (arith, part-within _ _ c.in-Some.ensures)

pub slice_bounds-take_block-end-2 : goal.slice_bounds-take_block-end-2
slice_bounds-take_block-end-2 c = simp length-take (omega (arith, part-within _ _ c.in-Some.ensures))

pub take_block-requires : goal.take_block-requires
take_block-requires c =
    let s = part-within _ _ c.in-Some.ensures in
    record {
      at_lt_limit = c.requires.at_lt_limit;
      small_file = record { short = simp length-take (omega (arith, s, c.requires.roomy_file.small.short, c.block-1.given)); room = c.requires.roomy_file.small.room };
    }

pub returns-in_default : goal.returns-in_default
returns-in_default c = unread (ap Stopped c.failed.ensures)

pub returns : goal.returns
returns c = read _ _ (part-read _ _ c.in-Some.ensures) c.take_block.ensures
