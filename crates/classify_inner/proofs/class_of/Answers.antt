-- `classify_inner::class_of` meets its contract: the class by what the scan found.
use Rattle.classify_inner.proofs.Scanning.{class-empty, class-broken, class-lyndon, class-repeats, class-opens}
use Rattle.classify_inner.proofs.class_of.Goals as goal

pub returns-then-n-lt1 : goal.returns-then-n-lt1
returns-then-n-lt1 c = class-empty _ c.if-n-lt1.true

pub returns-then-begun-n : goal.returns-then-begun-n
returns-then-begun-n c = class-broken c.args.s.now c.scan-begun.result c.scan-begun.ensures c.if-begun-n.true

pub returns-then-p-n : goal.returns-then-p-n
returns-then-p-n c = class-lyndon c.args.s.now c.scan-begun.result c.scan-begun.ensures c.if-begun-n.false c.if-p-n.true

pub returns-then-n-p-eq0 : goal.returns-then-n-p-eq0
returns-then-n-p-eq0 c =
    class-repeats c.args.s.now c.scan-begun.result c.scan-begun.ensures c.if-begun-n.false
    c.if-p-n.false c.if-n-p-eq0.true

pub returns : goal.returns
returns c =
    class-opens c.args.s.now c.scan-begun.result c.scan-begun.ensures c.if-begun-n.false c.if-n-p-eq0.false
