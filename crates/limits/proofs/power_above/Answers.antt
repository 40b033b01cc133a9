-- `limits::power_above` meets its contract. The loop's invariant: p is k to the power of the turns made, and within the limit.
use Rattle.limits.proofs.Power.{power_small, power_zero, power-over}
use Rattle.limits.proofs.power_above.Goals as goal

pub returns-then-k-lt2 : goal.returns-then-k-lt2
returns-then-k-lt2 c = power_small c.args.k c.args.n c.args.limit c.if-k-lt2.true c.if-n-eq0.false

pub returns-then-limit-lt1 : goal.returns-then-limit-lt1
returns-then-limit-lt1 c = power_zero c.args.k c.args.n c.args.limit c.if-k-lt2.false c.if-limit-lt1.true

pub returns-then-limit-k : goal.returns-then-limit-k
returns-then-limit-k c =
    power-over c.args.k c.args.n c.args.limit c.loop.counter c.loop.p c.if-k-lt2.false c.loop.invariant.0 c.loop-test.true c.if-limit-k.true
