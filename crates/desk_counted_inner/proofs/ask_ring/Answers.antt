-- `desk_counted_inner::ask_ring` meets its contract.
use Rattle.words.proofs.Needs.{arith, not-true, not-false, length-take}
use Rattle.desk_spec.specs.Answers.{AfterPrints}
use Rattle.desk_texts_inner.proofs.Putting.{put-good, put-bad}
use Rattle.desk_counts_inner.proofs.Asking.{no-spelt, put-spelt}
use Rattle.desk_counted_inner.proofs.ask_ring.Goals as goal

pub returns-then-not-spell : goal.returns-then-not-spell
returns-then-not-spell c =
    put-bad _ _ (no-spelt c.args.t.now c.args.s.now (rw (not-true c.spell.result c.if-not-spell.true-raw) at c.spell.ensures)) _

pub returns-in_default : goal.returns-in_default
returns-in_default c = put-bad _ _ (λ q x. c.in_default.ensures q.1 x.1) _

pub slice_bounds-answer_after-end : goal.slice_bounds-answer_after-end
slice_bounds-answer_after-end c = simp length-take (omega (arith, c.in-Some.ensures.0))

pub returns : goal.returns
returns c =
    let s = rw (not-false c.spell.result c.if-not-spell.false-raw) at c.spell.ensures in
    put-spelt AfterPrints c.args.t.now c.args.k c.args.s.now _ s _ _ _ _ (put-good _ _ _ _ _ _ _ c.in-Some.ensures.1 c.answer_after.ensures)
