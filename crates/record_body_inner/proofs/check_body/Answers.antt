-- `record_body_inner::check_body` meets its contract: what looking at the sectors tells, at their places.
use Rattle.words.proofs.Needs.{arith}
use Rattle.record_body_inner.proofs.Bodies.{look_in}
use Rattle.record_body_inner.proofs.check_body.Goals as goal

pub overflow_add-result-in-NotHome-2 : goal.overflow_add-result-in-NotHome-2
overflow_add-result-in-NotHome-2 c = omega (arith, look_in c.args.body.now c.in-NotHome.i c.requires.1 c.in-NotHome.ensures.0)
