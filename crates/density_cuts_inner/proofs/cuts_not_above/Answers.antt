-- `density_cuts_inner::cuts_not_above` meets its contract. The loop's invariant: of the cuts before cut j, so many are not above x.
use Rattle.words.proofs.Needs.{arith, sym}
use Rattle.density_cuts_inner.proofs.Counting.{none-counted, one-counted}
use Rattle.density_cuts_inner.proofs.cuts_not_above.Goals as goal
use Rattle.density_cuts_inner.proofs.cuts_not_above.Goals.{then-level-x, else-level-x}

pub loop-j-init : goal.loop-j-init
loop-j-init c = (omega arith, sym (none-counted c.args.card c.args.k c.args.x))

pub loop-j-preserved : goal.loop-j-preserved
loop-j-preserved c =
    let more = one-counted c.args.card c.args.k c.args.x c.loop-j.j in
    elim c.if-level-x.branch [
      | then-level-x w ↦ let e = more _ (omega arith) (rw c.cut_level-level.ensures at w.if-level-x.true) in (omega arith, omega arith)
      | else-level-x w ↦ let e = more _ (omega arith) (rw c.cut_level-level.ensures at w.if-level-x.false) in (omega arith, omega arith)
    ]
