-- `walk_moves_inner::class_at` meets its contract.
use Rattle.walk_kind_laws.proofs.ByLyn.{at-single, at-repeating, at-opening}
use Rattle.walk_moves_inner.proofs.class_at.Goals as goal

pub returns-then-p-n : goal.returns-then-p-n
returns-then-p-n c = at-single _ _ c.if-p-n.true

pub returns-then-n-p-eq0 : goal.returns-then-n-p-eq0
returns-then-n-p-eq0 c = at-repeating _ _ c.if-p-n.false c.if-n-p-eq0.true

pub returns-else-n-p-eq0 : goal.returns-else-n-p-eq0
returns-else-n-p-eq0 c = at-opening _ _ c.if-p-n.false c.if-n-p-eq0.false
