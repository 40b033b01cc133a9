-- `shades_tally_inner::fitting` meets its contract. The loop: the first i sectors fit, and rem is what the counts leave beside them.
use Rattle.words.proofs.Needs.{arith}
use Rattle.shades_tally_inner.proofs.Leaving.{remains-more, exceeds-one}
use Rattle.shades_tally_inner.proofs.fitting.Goals as goal

pub bounds-rem-x : goal.bounds-rem-x
bounds-rem-x c = omega (arith, c.requires.known c.loop-i.i (omega arith), c.requires.few, c.loop-i.invariant.size)

pub returns-then-rem-x-eq0 : goal.returns-then-rem-x-eq0
returns-then-rem-x-eq0 c =
    record {
      within = omega arith;
      remains = c.loop-i.invariant;
      exceeds = λ h. exceeds-one c.args.counts.now c.args.s.now c.loop-i.rem c.loop-i.i h (c.requires.known _ h)
          c.requires.few c.loop-i.invariant (rw c.from-x.ensures at c.if-rem-x-eq0.true);
    }

pub loop-i-preserved : goal.loop-i-preserved
loop-i-preserved c =
    rw c.from-x.ensures
    (remains-more c.args.counts.now c.args.s.now c.loop-i.rem c.loop-i.i (omega arith) (c.requires.known c.loop-i.i (omega arith)) c.requires.few
    c.loop-i.invariant (rw c.from-x.ensures at c.if-rem-x-eq0.false))
