-- `home_shift_inner::least_shift` meets its contract. The loop's invariant: the shift is i, or it is not below j, and the two turns agree at the first m
-- places. The measure, 3 n less i + j + m, bounds the comparisons of two sectors: each turn of the loop makes one.
use Rattle.words.proofs.Plain.{arith}
use Rattle.home_shift_inner.proofs.Seek.{seeks-smaller, seeks-greater, seeks-alike, seeks-end}
use Rattle.home_shift_inner.proofs.least_shift.Goals as goal

pub loop-j-preserved-then-x-y : goal.loop-j-preserved-then-x-y
loop-j-preserved-then-x-y c =
    seeks-smaller c.args.s.now c.loop-j.i c.loop-j.j c.loop-j.m c.sector-x.result
    c.sector-y.result c.loop-j.invariant c.loop-j-test.true c.sector-x.ensures
    c.sector-y.ensures c.if-x-y.true

pub loop-j-preserved-then-y-x : goal.loop-j-preserved-then-y-x
loop-j-preserved-then-y-x c =
    let past = seeks-greater c.args.s.now c.loop-j.i c.loop-j.j c.loop-j.m
    c.sector-x.result c.sector-y.result c.loop-j.invariant
    c.loop-j-test.true c.sector-x.ensures
    c.sector-y.ensures c.if-y-x.true in
    past c.max-i.result (omega arith) (omega arith) (λ b h k. omega arith)

pub returns-then-m-n : goal.returns-then-m-n
returns-then-m-n c =
    seeks-alike c.args.s.now c.loop-j.i c.loop-j.j c.loop-j.m
    c.sector-x.result c.sector-y.result c.loop-j.invariant
    c.loop-j-test.true c.sector-x.ensures
    c.sector-y.ensures (omega (arith, c.if-x-y.false, c.if-y-x.false)) c.if-m-n.true

pub returns : goal.returns
returns c = seeks-end c.args.s.now c.loop-j.i c.loop-j.j c.loop-j.m c.loop-j.invariant c.loop-j-test.false
