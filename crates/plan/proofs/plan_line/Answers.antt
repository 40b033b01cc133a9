-- `plan::plan_line` meets its contract.
use Rattle.plan.proofs.Plans.{plan-spelt}
use Rattle.plan.proofs.plan_line.Goals as goal

pub returns : goal.returns
returns c = plan-spelt _ _ c.in_ok-k.k c.in_ok-k.n _ (rw c.in_ok-k.ensures.ok_part at c.parse_line.ensures) c.plan_numbers.ensures
