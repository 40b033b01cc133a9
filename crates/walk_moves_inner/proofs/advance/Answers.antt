-- `walk_moves_inner::advance` meets its contract. The loop's invariant, `Stands`: the step has gone from prenecklace to prenecklace, has met none of the kind, and its lyn rises.
use Rattle.words.proofs.Needs.{arith, ◌∙◌, sym, refl}
use Rattle.walk_moves_inner.proofs.Standing.{stands-start, stands-low, stands-none, risen}
use Rattle.walk_moves_inner.proofs.advance.Goals as goal

pub loop-at-init : goal.loop-at-init
loop-at-init c = stands-start c.requires

pub raise-requires : goal.raise-requires
raise-requires c = stands-low c.requires c.loop-at.invariant c.in-Some.ensures _ refl

pub returns-then-at-ring : goal.returns-then-at-ring
returns-then-at-ring c =
    let r = risen c.requires c.loop-at.invariant c.in-Some.ensures (omega arith) c.raise.ensures in
    r.last (omega (arith, r.long, c.loop-at.invariant.walked.long, r.rises, c.if-at-ring.true))

pub raise-requires-in-Some : goal.raise-requires-in-Some
raise-requires-in-Some c = stands-low c.requires c.loop-at.invariant c.in-Some.ensures _ refl

pub overflow_add-lyn : goal.overflow_add-lyn
overflow_add-lyn c = omega (arith, (stands-low c.requires c.loop-at.invariant c.in-Some.ensures _ refl).0)

pub of_kind-requires : goal.of_kind-requires
of_kind-requires c = omega (arith, risen c.requires c.loop-at.invariant c.in-Some.ensures (omega arith) c.raise-in-Some.ensures)

pub returns-then-of_kind : goal.returns-then-of_kind
returns-then-of_kind c = (risen c.requires c.loop-at.invariant c.in-Some.ensures (omega arith) c.raise-in-Some.ensures).found (sym c.of_kind.ensures ∙ c.if-of_kind.true)

pub loop-at-smaller : goal.loop-at-smaller
loop-at-smaller c = omega (arith, risen c.requires c.loop-at.invariant c.in-Some.ensures (omega arith) c.raise-in-Some.ensures)

pub loop-at-preserved : goal.loop-at-preserved
loop-at-preserved c = (risen c.requires c.loop-at.invariant c.in-Some.ensures (omega arith) c.raise-in-Some.ensures).on (sym c.of_kind.ensures ∙ c.if-of_kind.false)

pub returns : goal.returns
returns c = stands-none c.requires c.loop-at.invariant refl c.in_default.ensures
