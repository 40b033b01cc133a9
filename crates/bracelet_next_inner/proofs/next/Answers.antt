-- `bracelet_next_inner::next` meets its contract.
use Rattle.words.proofs.Needs.{arith}
use Rattle.bracelet_next_inner.proofs.next.Goals as goal

pub returns-then-m-eq0 : goal.returns-then-m-eq0
returns-then-m-eq0 c = c.lift-m.ensures.none_above c.if-m-eq0.true

pub complete-requires : goal.complete-requires
complete-requires c = (
  c.requires.some-shades,
  c.requires.shades,
  (
    c.args.s.now,
    c.lift-m.ensures.leads (omega (arith, c.if-m-eq0.false)),
  ),
)

pub returns : goal.returns
returns c =
    c.complete.ensures c.args.s.now
    (c.lift-m.ensures.leads (omega (arith, c.if-m-eq0.false)))
