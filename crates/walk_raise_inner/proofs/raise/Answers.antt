-- `walk_raise_inner::raise` meets its contract. The loop's invariant: the sectors passed repeat those up to the place, which is raised, and the next is copied from
-- place i % (at + 1).
use Rattle.words.proofs.Needs.{◌+◌, ◌%◌, ◌≡◌, arith, sym, ◌∙◌}
use native.Mathlib.Nat.{mod_self}
use Rattle.walk_raise_inner.proofs.Raising.{copied-start, copied_more, copied-end, round-in, round-on, round-back}
use Rattle.walk_raise_inner.proofs.raise.Goals as goal
use Rattle.walk_raise_inner.proofs.raise.Goals.{then-from-at, else-from-at}

pub bounds-s-from : goal.bounds-s-from
bounds-s-from c = omega (arith, round-in (c.args.at + 1) c.loop-i.i c.loop-i.from (omega arith) c.loop-i.invariant.1)

pub loop-i-init : goal.loop-i-init
loop-i-init c = (copied-start _ _, sym (mod_self (c.args.at + 1)))

pub loop-i-preserved : goal.loop-i-preserved
loop-i-preserved c =
    let e : c.if-from-at.from ≡ (c.loop-i.i + 1) % (c.args.at + 1) =
    elim c.if-from-at.branch [
      | then-from-at w ↦ w.from-is ∙ round-back (c.args.at + 1) c.loop-i.i c.loop-i.from (omega arith) c.loop-i.invariant.1 (omega (arith, w.if-from-at.true))
      | else-from-at w ↦ w.from-is ∙ round-on (c.args.at + 1) c.loop-i.i c.loop-i.from (omega arith) c.loop-i.invariant.1 (λ h. w.if-from-at.false (omega (arith, h)))
    ] in
    (copied_more _ _ _ _ _ (omega arith) (omega arith) c.loop-i.invariant.0 c.loop-i.invariant.1 (omega arith), e)

pub returns : goal.returns
returns c = copied-end c.args.s.now _ _ _ (omega arith) c.loop-i.invariant.0 (omega arith)
