-- `set_choose_inner::choose` meets its contract. Its loop is that of Along: the choice from the Lyndon words above the ring that the walk has come to, from those
-- taken on, is the set; each turn leaves fewer readings above.
use Rattle.std.specs.Prelude.{Ok}
use Rattle.words.proofs.Needs.{ℕ, ◌≡◌, rules, arith, sym, length-take, length-take-le}
use Rattle.walk_spec.specs.declared.Outcome.TheVariants.{Moved}
use Rattle.set_choose_inner.proofs.Along.{zeros-part, taken-few, started, along-start, along-ended, Turned, turned, along-full}
use Rattle.set_choose_inner.proofs.choose.Goals as goal
use Rattle.set_choose_inner.proofs.choose.Goals.{In-Ok-Moved}

pub slice_bounds-zeros-end : goal.slice_bounds-zeros-end
slice_bounds-zeros-end c = omega (arith, c.requires.short)

pub slice_bounds-start-end : goal.slice_bounds-start-end
slice_bounds-start-end c = simp length-take (omega (arith, c.requires.short))

pub overflow_cast-tallies : goal.overflow_cast-tallies
overflow_cast-tallies c = omega (arith, taken-few c.args.rule c.args.n c.zero_taken-taken.result c.zero_taken-taken.ensures)

pub loop-taken-init : goal.loop-taken-init
loop-taken-init c =
    along-start c.zero_taken-taken.result c.requires (started c.requires c.start-started.result.walk c.start-started.result.answer
    (zeros-part c.args.n 64 (omega (arith, c.requires.short))) c.start-started.ensures) c.args.rule c.zero_taken-taken.ensures

pub returns-in_default : goal.returns-in_default
returns-in_default c =
    let n : (m : ℕ) → c.next_word-stepped.result.outcome ≡ Ok (Moved m) → ⊥ = λ m e. search rules in
    along-ended c.requires c.loop-taken.invariant c.next_word-stepped.result.walk c.next_word-stepped.result.outcome n c.next_word-stepped.ensures
    (omega (arith, c.loop-taken-test.true))

pub returns-in_default-2 : goal.returns-in_default-2
returns-in_default-2 c =
    let n : (m : ℕ) → c.next_word-stepped.result.outcome ≡ Ok (Moved m) → ⊥ = λ m e. search rules in
    along-ended c.requires c.loop-taken.invariant c.next_word-stepped.result.walk c.next_word-stepped.result.outcome n c.next_word-stepped.ensures
    (omega (arith, c.loop-taken-test.true))

-- behind a step that moved
moved : (c : In-Ok-Moved) →
    Turned c.args.rule c.args.n c.args.k c.args.d c.args.wanted c.loop-taken.w c.loop-taken.places c.loop-taken.tallies c.loop-taken.taken c.next_word-stepped.result.walk
moved c =
    turned c.requires c.loop-taken.invariant (omega (arith, c.loop-taken-test.true))
    (let e : c.next_word-stepped.result.outcome ≡ Ok (Moved c.in-Ok-Moved.field-0-0) = search rules in rw e at c.next_word-stepped.ensures)

pub slice_bounds-offer-end : goal.slice_bounds-offer-end
slice_bounds-offer-end c = sym (moved (goal.at.slice_bounds-offer-end c).In-Ok-Moved).places

pub slice_bounds-offer-end-in-loop-taken : goal.slice_bounds-offer-end-in-loop-taken
slice_bounds-offer-end-in-loop-taken c = sym (moved (goal.at.slice_bounds-offer-end-in-loop-taken c).In-Ok-Moved).tallies

pub slice_bounds-offer-end-in-loop-taken-2 : goal.slice_bounds-offer-end-in-loop-taken-2
slice_bounds-offer-end-in-loop-taken-2 c = sym (length-take-le _ _ (moved (goal.at.slice_bounds-offer-end-in-loop-taken-2 c).In-Ok-Moved).size)

pub offer-taken-requires : goal.offer-taken-requires
offer-taken-requires c = record { comparable = ((moved (goal.at.offer-taken-requires c).In-Ok-Moved).asked).0; taken_bound = ((moved (goal.at.offer-taken-requires c).In-Ok-Moved).asked).1 }

pub loop-taken-smaller : goal.loop-taken-smaller
loop-taken-smaller c = (moved (goal.at.loop-taken-smaller c).In-Ok-Moved).less

pub loop-taken-preserved : goal.loop-taken-preserved
loop-taken-preserved c = (moved (goal.at.loop-taken-preserved c).In-Ok-Moved).on _ _ _ c.offer-taken.ensures

pub returns : goal.returns
returns c = along-full c.requires c.loop-taken.invariant (omega (arith, c.loop-taken-test.false))
