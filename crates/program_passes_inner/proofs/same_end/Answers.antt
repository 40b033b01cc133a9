-- `program_passes_inner::same_end` meets its contract.
use Rattle.program_passes_inner.proofs.Courses.{same_whole, same-changed}
use Rattle.program_passes_inner.proofs.same_end.Goals as goal

pub returns-then-first-second : goal.returns-then-first-second
returns-then-first-second c = same_whole c.args.first c.args.second c.if-first-second.true

pub returns-else-first-second : goal.returns-else-first-second
returns-else-first-second c = same-changed c.args.first c.args.second c.if-first-second.false
