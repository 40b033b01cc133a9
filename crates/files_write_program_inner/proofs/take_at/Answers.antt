-- `files_write_program_inner::take_at` meets its contract.
use Rattle.words.proofs.Needs.{arith, ap, length-take}
use Rattle.std.specs.Prelude.{Err}
use Rattle.files_write_program_inner.specs.Says.{unread, full, some, last}
use Rattle.files_write_program_inner.proofs.Turns.{part_room}
use Rattle.files_write_program_inner.proofs.take_at.Goals as goal

pub slice_bounds-take_end-end-then-got-eq0 : goal.slice_bounds-take_end-end-then-got-eq0
slice_bounds-take_end-end-then-got-eq0 c = simp length-take (omega (arith, c.requires.len_in_bounds))

pub returns-then-got-eq0 : goal.returns-then-got-eq0
returns-then-got-eq0 c = last c.take_end.ensures

pub slice_bounds-take_block-end : goal.slice_bounds-take_block-end
slice_bounds-take_block-end c = let h = rw c.in-Ended.is at c.read_from.ensures in omega (arith, h)

pub slice_bounds-take_block-end-in-Ended : goal.slice_bounds-take_block-end-in-Ended
slice_bounds-take_block-end-in-Ended c =
    let h = rw c.in-Ended.is at c.read_from.ensures in simp length-take (omega (arith, h))

pub take_block-requires-in-Ended : goal.take_block-requires-in-Ended
take_block-requires-in-Ended c =
    let h = rw c.in-Ended.is at c.read_from.ensures in
    record {
      line_len = c.requires.roomy_lines.kept;
      len_in_bounds = c.requires.len_in_bounds;
      record_room_in_bounds = part_room _ _ _ (simp length-take (omega (arith, h, c.block-1.given))) c.requires.roomy_lines.room;
      block_bound = simp length-take (omega (arith, h, c.block-1.given, c.requires.at_lt_limit, c.requires.roomy_lines.short, c.requires.lines_le_at));
    }

pub returns-in-Failed : goal.returns-in-Failed
returns-in-Failed c = unread (ap Err c.failed.ensures)

pub returns-in-Full : goal.returns-in-Full
returns-in-Full c = full c.take_block.ensures

pub returns-else-got-eq0 : goal.returns-else-got-eq0
returns-else-got-eq0 c =
    let h = rw c.in-Ended.is at c.read_from.ensures in some c.in-Ended.got (omega (arith, c.if-got-eq0.false)) h c.take_block-in-Ended.ensures
