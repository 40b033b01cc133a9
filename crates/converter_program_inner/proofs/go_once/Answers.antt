-- `converter_program_inner::go_once` meets its contract. What is done so far are good records, and each block that is not the last has a whole one, so
-- that the next begins further on.
use Rattle.words.proofs.Needs.{rules, ◌-◌, ◌<◌, ◌≡◌, arith, refl, sym, ◌∙◌, false}
use Rattle.program_passes_inner.specs.Passes.{limit, goes_further, course_of}
use Rattle.program_passes_inner.specs.Passes.Course.{On}
use Rattle.words.proofs.Plain.{ltb-true}
use Rattle.converter_program_inner.proofs.Times.{fit-still, reached-none, at_on, at-ends, at-within}
use Rattle.converter_program_inner.proofs.go_once.Goals as goal
use Rattle.converter_program_inner.proofs.go_once.Goals.{in_default-via-in-Ok-On+else-goes_on, in_default-via-in-Ok+in_default, in_default-via-in_default}

pub loop-used-init : goal.loop-used-init
loop-used-init c = (c.requires, refl, refl, omega arith, reached-none c.args.writing)

pub loop-used-smaller : goal.loop-used-smaller
loop-used-smaller c =
    let k : course_of c.take_at-turn.result ≡ On c.in-Ok-On.used = search rules in
    let e : c.in-Ok-On.used < limit - c.loop-used.at = ltb-true _ _ (sym (rw k at c.goes_on.ensures) ∙ c.if-goes_on.true) in
    let g = at_on c.args.writing c.loop-used.at _ _ (course_of c.take_at-turn.result) c.loop-used.invariant.4 _ k
    (omega (arith, c.loop-used.invariant.0.some, c.block-1.given)) c.take_at-turn.ensures in
    omega (arith, g.0, e)

pub loop-used-preserved : goal.loop-used-preserved
loop-used-preserved c =
    let k : course_of c.take_at-turn.result ≡ On c.in-Ok-On.used = search rules in
    let e : c.in-Ok-On.used < limit - c.loop-used.at = ltb-true _ _ (sym (rw k at c.goes_on.ensures) ∙ c.if-goes_on.true) in
    let g = at_on c.args.writing c.loop-used.at _ _ (course_of c.take_at-turn.result) c.loop-used.invariant.4 _ k
    (omega (arith, c.loop-used.invariant.0.some, c.block-1.given)) c.take_at-turn.ensures in (
      fit-still _ _ _ _ c.loop-used.invariant.0 c.block-1.given c.new-1.given,
      c.block-1.given ∙ c.loop-used.invariant.1,
      c.new-1.given ∙ c.loop-used.invariant.2,
      omega (arith, e),
      g.2,
    )

pub finish-requires : goal.finish-requires
finish-requires c =
    at-within c.args.writing c.loop-used.at _ _ c.loop-used.invariant.4
    (course_of c.take_at-turn.result) c.loop-used.invariant.3 (omega (arith, c.loop-used.invariant.0.short, c.block-1.given)) c.take_at-turn.ensures

pub returns-in_default : goal.returns-in_default
returns-in_default c =
    let e : goes_further c.loop-used.at (course_of c.take_at-turn.result) ≡ false =
    elim c.in_default.branch [
      | in_default-via-in-Ok-On+else-goes_on w ↦ sym w.goes_on.ensures ∙ w.if-goes_on.false
      | in_default-via-in-Ok+in_default w ↦ search rules
      | in_default-via-in_default w ↦ rw w.in_default.is refl
    ] in
    let h = at-ends c.args.writing c.loop-used.at _ _ c.loop-used.invariant.4
    (course_of c.take_at-turn.result) (omega (arith, c.loop-used.invariant.0.some, c.block-1.given)) e c.take_at-turn.ensures in
    rw c.finish.ensures h
