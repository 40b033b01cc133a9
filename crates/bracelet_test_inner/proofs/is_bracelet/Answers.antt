-- `bracelet_test_inner::is_bracelet` meets its contract.
use Rattle.words.proofs.Needs.{arith, sym}
use Rattle.bracelet_test_inner.proofs.Facing.{scan-broken, scan-uneven, scan-whole}
use Rattle.bracelet_test_inner.proofs.is_bracelet.Goals as goal

-- `bracelet_test_inner::is_bracelet` meets its contract.
pub returns-then-begun-n : goal.returns-then-begun-n
returns-then-begun-n c = sym (scan-broken c.args.s.now c.scan-begun.result c.scan-begun.ensures c.if-begun-n.true)

pub nonzero_rem-n : goal.nonzero_rem-n
nonzero_rem-n c = omega (arith, c.scan-begun.ensures.run.pos, c.scan-begun.ensures.run.fits)

pub returns-then-n-p-ne0 : goal.returns-then-n-p-ne0
returns-then-n-p-ne0 c =
    sym (scan-uneven c.args.s.now c.scan-begun.result c.scan-begun.ensures c.if-begun-n.false c.if-n-p-ne0.true)

pub not_above_mirror-requires : goal.not_above_mirror-requires
not_above_mirror-requires c =
    (c.requires, scan-whole c.args.s.now c.scan-begun.result c.scan-begun.ensures c.if-begun-n.false c.if-n-p-ne0.false)
