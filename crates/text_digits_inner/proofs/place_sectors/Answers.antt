-- `text_digits_inner::place_sectors` meets its contract. The loop's invariant: the first i sectors are placed.
use Rattle.text_spec.proofs.Put.{placed-sector}
use Rattle.text_digits_inner.proofs.place_sectors.Goals as goal

pub loop-i-preserved : goal.loop-i-preserved
loop-i-preserved c = placed-sector _ _ _ _ _ c.hex.result c.loop-i-test.true c.hex.ensures c.loop-i.invariant
