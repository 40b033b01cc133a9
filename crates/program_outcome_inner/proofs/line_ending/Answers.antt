-- `program_outcome_inner::line_ending` meets its contract: what was read, and whether all was written, put in where the answer names them.
use Rattle.words.proofs.Needs.{refl, not-true, not-false}
use Rattle.program_outcome_inner.proofs.line_ending.Goals as goal

pub returns-then-not-wrote : goal.returns-then-not-wrote
returns-then-not-wrote c = rw (not-true c.args.wrote c.if-not-wrote.true-raw) refl

pub returns-in-Full : goal.returns-in-Full
returns-in-Full c = rw (not-false c.args.wrote c.if-not-wrote.false-raw, c.in-Full.is) refl

pub returns-in-Ended : goal.returns-in-Ended
returns-in-Ended c = rw (not-false c.args.wrote c.if-not-wrote.false-raw, c.in-Ended.is) refl

pub returns-in-Failed : goal.returns-in-Failed
returns-in-Failed c = rw (not-false c.args.wrote c.if-not-wrote.false-raw, c.in-Failed.is) refl
