-- `home_differing_inner::differing_below` meets its contract. The loop's invariant: d is at most limit, and d and what is left of the two from place m on give the
-- number.
use Rattle.words.proofs.Needs.{arith, refl, sym, ⊎_elim, length, get_or}
use Rattle.words.specs.Turn.{turn}
use Rattle.words.proofs.Turn.{length-turn}
use Rattle.home_turns_inner.proofs.Rests.{differing-one, differing-on, differing-end}
use Rattle.home_differing_inner.proofs.differing_below.Goals as goal

pub returns-then-limit-d : goal.returns-then-limit-d
returns-then-limit-d c = omega (arith, c.loop-m.invariant.0, c.if-limit-d.true)

pub loop-m-preserved : goal.loop-m-preserved
loop-m-preserved c =
    let v = turn c.args.i c.args.a.now in (
      ⊎_elim
          (λ e. rw e.d-is (differing-one v c.args.b.now (length c.args.a.now) c.loop-m.m _ (get_or c.args.b.now c.loop-m.m 0)
          (length-turn c.args.i c.args.a.now c.requires.1) (sym c.requires.0) c.loop-m-test.true
          c.sector.ensures refl c.loop-m.d c.loop-m.invariant.0 e.if-sector-b.true))
          (λ e. rw e.d-is (differing-on v c.args.b.now (length c.args.a.now) c.loop-m.m _ (get_or c.args.b.now c.loop-m.m 0)
          (length-turn c.args.i c.args.a.now c.requires.1) (sym c.requires.0) c.loop-m-test.true
          c.sector.ensures refl c.loop-m.d c.loop-m.invariant.0 e.if-sector-b.false)) c.if-sector-b.branch-raw,
      ⊎_elim (λ e. omega arith) (λ e. omega arith) c.if-sector-b.branch-raw,
      ⊎_elim (λ e. omega (arith, c.if-limit-d.false)) (λ e. omega arith) c.if-sector-b.branch-raw,
    )

pub returns : goal.returns
returns c =
    let e = differing-end (turn c.args.i c.args.a.now) c.args.b.now (length c.args.a.now) c.loop-m.m (length-turn c.args.i c.args.a.now c.requires.1)
    (sym c.requires.0) c.loop-m-test.false c.loop-m.d c.loop-m.invariant.0 in
    omega arith
