-- `walk_raise_inner::last_low` meets its contract. The loop's invariant: no place past i can be raised.
use Rattle.words.proofs.Needs.{◌-◌, ◌+◌, ◌≡◌, arith, sym, length}
use Rattle.walk_raise_inner.proofs.Raising.{Over, over-start, over-found, over-more, over_none}
use Rattle.walk_raise_inner.proofs.last_low.Goals as goal

pub returns-then-n-eq0 : goal.returns-then-n-eq0
returns-then-n-eq0 c = sym (over_none c.args.k c.args.s.now (λ m h b. absurd (omega (arith, c.if-n-eq0.true))))

pub returns-then-from-top : goal.returns-then-from-top
returns-then-from-top c =
    let e : length c.args.s.now - 1 + 1 ≡ length c.args.s.now = omega (arith, c.if-n-eq0.false) in
    let h : Over c.args.k c.args.s.now (length c.args.s.now - 1 + 1) = rw e (over-start c.args.k c.args.s.now) in
    over-found c.args.k c.args.s.now (length c.args.s.now - 1) (omega (arith, c.if-n-eq0.false)) h (omega (arith, c.from.ensures, c.if-from-top.true, c.saturating_sub-top.ensures))

pub loop-i-init : goal.loop-i-init
loop-i-init c = (
  omega arith,
  over-more c.args.k c.args.s.now (length c.args.s.now) (omega (arith, c.if-n-eq0.false)) (over-start c.args.k c.args.s.now)
      (omega (arith, c.from.ensures, c.if-from-top.false, c.saturating_sub-top.ensures)),
)

pub returns-then-from-top-2 : goal.returns-then-from-top-2
returns-then-from-top-2 c =
    let e : c.loop-i.i - 1 + 1 ≡ c.loop-i.i = omega (arith, c.loop-i-test.true) in
    let h : Over c.args.k c.args.s.now (c.loop-i.i - 1 + 1) = rw e c.loop-i.invariant.1 in
    over-found c.args.k c.args.s.now (c.loop-i.i - 1) (omega (arith, c.loop-i.invariant.0, c.loop-i-test.true)) h
    (omega (arith, c.from-in-loop-i.ensures, c.if-from-top-2.true, c.saturating_sub-top.ensures))

pub loop-i-preserved : goal.loop-i-preserved
loop-i-preserved c = (
  omega (arith, c.loop-i.invariant.0),
  over-more c.args.k c.args.s.now c.loop-i.i c.loop-i-test.true c.loop-i.invariant.1
      (omega (arith, c.from-in-loop-i.ensures, c.if-from-top-2.false, c.saturating_sub-top.ensures)),
)

pub returns : goal.returns
returns c =
    let e : c.loop-i.i ≡ 0 = omega (arith, c.loop-i-test.false) in
    sym (over_none c.args.k c.args.s.now (rw e at c.loop-i.invariant.1))
