-- `line::parse_line` meets its contract: the last character says whether there is a newline.
use Rattle.words.proofs.Needs.{arith}
use Rattle.line_spec.proofs.Lines.{line-some, split-ended}
use Rattle.line.proofs.parse_line.Goals as goal

pub returns-in_err-last : goal.returns-in_err-last
returns-in_err-last c = rw c.from_residual.ensures (λ k n p. omega (arith, line-some c.args.s.now k n p, c.in_err-last.ensures.cases))

pub returns-then-last-eq10 : goal.returns-then-last-eq10
returns-then-last-eq10 c = split-ended _ _ _ _ c.in_ok-last.ensures.cases.0 c.if-last-eq10.true c.parse_fields.ensures
