-- `strip_place_inner::stands` meets its contract. The loop's invariant: the first i sectors of the reading stand at place p.
use Rattle.words.proofs.Needs.{◌+◌, arith}
use native.Mathlib.Nat.{mod-lt}
use Rattle.strip_place_inner.proofs.Looking.{agrees-more, agrees-all, agrees-not}
use Rattle.strip_place_inner.proofs.stands.Goals as goal

pub loop-i-init : goal.loop-i-init
loop-i-init c = λ j h. absurd (omega arith)

pub bounds-s-p : goal.bounds-s-p
bounds-s-p c = mod-lt (c.args.p + c.loop-i.i) (omega arith)

pub returns-then-s-p : goal.returns-then-s-p
returns-then-s-p c =
    agrees-not c.args.s.now c.args.p c.args.reading.now c.loop-i.i (omega arith) c.if-s-p.true

pub loop-i-preserved : goal.loop-i-preserved
loop-i-preserved c =
    agrees-more c.args.s.now c.args.p c.args.reading.now c.loop-i.i c.loop-i.invariant c.if-s-p.false

pub returns : goal.returns
returns c =
    agrees-all c.args.s.now c.args.p c.args.reading.now _ (omega arith) c.loop-i.invariant
