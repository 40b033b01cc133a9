-- `classify_inner::scan` meets its contract. The loop's invariant: the first i sectors are a run of i - j.
use Rattle.words.proofs.Needs.{arith, ⊎_elim}
use Rattle.classify_inner.proofs.Scanning.{scan-same, scan-greater}
use Rattle.classify_inner.proofs.scan.Goals as goal

pub loop-i-preserved : goal.loop-i-preserved
loop-i-preserved c = (
  omega arith,
  ⊎_elim
      (λ m. rw m.j-is (scan-same c.args.s.now c.loop-i.i c.loop-i.j c.loop-i.invariant.1 m.if-here-opposite-2.true))
      (λ m. rw m.j-is (scan-greater c.args.s.now c.loop-i.i c.loop-i.j c.loop-i.invariant.1 (omega (arith, c.if-here-opposite.false, m.if-here-opposite-2.false))))
      c.if-here-opposite-2.branch-raw,
)
