-- `set_far_inner::surplus_of` meets its contract. The loop's invariant: `more` is the surplus of the shades that are passed.
use Rattle.words.proofs.Needs.{arith, rules, refl, length, length-append}
use Rattle.words.proofs.Sequence.{sec}
use Rattle.std.proofs.lemmas.Slice.Zip.{zip_turn}
use Rattle.ring_home_laws.proofs.Counts.{surplus}
use Rattle.set_far_inner.proofs.Far.{surplus-more}
use Rattle.set_far_inner.proofs.surplus_of.Goals as goal

pub loop-x-init : goal.loop-x-init
unfolding surplus
loop-x-init c = (omega arith, refl)

pub loop-x-preserved : goal.loop-x-preserved
loop-x-preserved c =
    let z = zip_turn c.args.a.now c.args.b.now c.loop-x.yielded c.into_iter-x-iterator.result c.loop-x.x-iterator c.next.new.self _ (search rules)
    (search rules) c.loop-x.yielded_by _ c.in-Some.is c.next.ensures.steps in
    let m = surplus-more (sec c.args.a.now) (sec c.args.b.now) (length c.loop-x.yielded) c.loop-x.more c.from-more.result c.loop-x.invariant.1 c.loop-x.invariant.0
    (omega (arith, c.from-more.ensures, c.saturating_sub.ensures, z.2 0, z.3 0)) (omega (arith, c.type_inv.a (length c.loop-x.yielded))) in
    simp length-append (m.1, m.0)
