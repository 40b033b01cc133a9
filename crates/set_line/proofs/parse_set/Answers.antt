-- `set_line::parse_set` meets its contract: the last character says whether there is a newline.
use Rattle.words.proofs.Needs.{arith}
use Rattle.set_line_spec.proofs.Four.{set-line-some, split-four}
use Rattle.set_line.proofs.parse_set.Goals as goal

pub returns-in_err-last : goal.returns-in_err-last
returns-in_err-last c = rw c.from_residual.ensures (λ n k d want p. omega (arith, set-line-some c.args.s.now n k d want p, c.in_err-last.ensures.cases))

pub returns-then-last-eq10 : goal.returns-then-last-eq10
returns-then-last-eq10 c = split-four _ _ _ _ c.in_ok-last.ensures.cases.0 c.if-last-eq10.true c.parse_four.ensures
