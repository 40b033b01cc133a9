-- `program_outcome_inner::stream_ending` meets its contract: what was read, and whether all was written, put in where the answer names them.
use Rattle.words.proofs.Needs.{refl, not-true, not-false}
use Rattle.program_outcome_inner.proofs.stream_ending.Goals as goal

pub returns-then-not-wrote : goal.returns-then-not-wrote
returns-then-not-wrote c = rw (not-true c.args.wrote c.if-not-wrote.true-raw) refl

pub returns-in-Bytes : goal.returns-in-Bytes
returns-in-Bytes c = rw (not-false c.args.wrote c.if-not-wrote.false-raw, c.in-Bytes.is) refl

pub returns-in-Over : goal.returns-in-Over
returns-in-Over c = rw (not-false c.args.wrote c.if-not-wrote.false-raw, c.in-Over.is) refl

pub returns-in-Failed : goal.returns-in-Failed
returns-in-Failed c = rw (not-false c.args.wrote c.if-not-wrote.false-raw, c.in-Failed.is) refl
