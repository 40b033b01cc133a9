-- `files_write_ending_inner::say_ended` meets its contract.
use Rattle.files_write_ending_inner.proofs.Said.{said-placed}
use Rattle.files_write_ending_inner.proofs.say_ended.Goals as goal

pub returns-in-Line : goal.returns-in-Line
returns-in-Line c = record { placed = rw c.in-Line.is c.place_refused_line.ensures.placed; upper_bound = c.place_refused_line.ensures.upper_bound }

pub returns-in-As : goal.returns-in-As
returns-in-As c =
    let said = said-placed _ _ _ _ c.requires c.say.ensures in
    record { placed = rw c.in-As.is said.0; upper_bound = said.1 }
