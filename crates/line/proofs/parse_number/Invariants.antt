-- `line::parse_number` meets its contract. The loop's invariant: the characters passed are digits, and x is what they spell.
use Rattle.line.proofs.Spelling.{Spelling}
use Rattle.line.proofs.parse_number.Given as goal

abbrev pub invariant-loop-a : goal.invariant-loop-a
invariant-loop-a l = Spelling l.s l.x l.a-index
