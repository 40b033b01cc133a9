-- `program_outcome_inner::whole_ending` meets its contract: what fills the buffer is too long, and of the rest `line_ending` tells.
use Rattle.program_outcome_inner.proofs.whole_ending.Goals as goal

pub returns-in-Ended : goal.returns-in-Ended
returns-in-Ended c = rw c.in-Ended.is (rw c.in-Ended.is at c.line_ending.ensures)

pub returns-in-Failed : goal.returns-in-Failed
returns-in-Failed c = rw c.in-Failed.is (rw c.in-Failed.is at c.line_ending-in-Failed.ensures)
