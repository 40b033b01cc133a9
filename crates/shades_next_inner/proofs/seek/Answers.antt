-- `shades_next_inner::seek` meets its contract. The loop: the next ring above `ring` is that above `start`, and at each turn a place further right is raised:
-- those raised so far are counted by the words that end there (specs/Raised).
use Rattle.words.proofs.Needs.{rules}
use Rattle.words.proofs.Needs.{ℕ, ◌-◌, arith, refl, ◌∙◌, sym, List, ◌++◌, take, drop, set, length-set, length-take-le}
use Rattle.shades_next_inner.proofs.Seeking.{headed, last_raised, seek-start, seek-none, seek-asks, Rounded, rounded}
use Rattle.shades_next_inner.proofs.Raised.{raised-none}
use Rattle.shades_next_inner.specs.{Runs.Repeats}
use Rattle.shades_next_inner.proofs.seek.Goals as goal
use Rattle.shades_next_inner.proofs.seek.Goals.{After-repeat}

pub loop-place-init : goal.loop-place-init
loop-place-init c = (seek-start (search rules) c.requires.0, sym (raised-none _ _ refl), c.requires.1)

pub find-place-requires : goal.find-place-requires
find-place-requires c = (c.loop-place.invariant.0.opening, c.loop-place.invariant.2)

pub returns-then-i-eq0 : goal.returns-then-i-eq0
returns-then-i-eq0 c = seek-none c.loop-place.invariant.0 c.find-place.ensures c.if-i-eq0.true c.loop-place.invariant.1

pub overflow_cast-ring : goal.overflow_cast-ring
overflow_cast-ring c = omega (arith, c.find-place.ensures.known (omega (arith, c.if-i-eq0.false)), c.requires.0.ready.shades)

pub overflow_sub-ring : goal.overflow_sub-ring
overflow_sub-ring c = omega (arith, c.if-i-eq0.false)

pub bounds-ring-i : goal.bounds-ring-i
bounds-ring-i c = omega (arith, c.find-place.ensures.within, c.requires.0.ready.size, c.if-i-eq0.false)

pub slice_bounds-ring-end : goal.slice_bounds-ring-end
slice_bounds-ring-end c = simp length-set (omega (arith, c.loop-place.invariant.0.size, c.requires.0.ready.size))

pub slice_bounds-repeat-end : goal.slice_bounds-repeat-end
slice_bounds-repeat-end c =
    sym (length-take-le _ _ (simp length-set
    (omega (arith, c.loop-place.invariant.0.size, c.requires.0.ready.size))))

pub repeat-requires : goal.repeat-requires
repeat-requires c = seek-asks c.loop-place.invariant.0 c.find-place.ensures c.if-i-eq0.false

-- behind a place that was raised, where t is what stands in the first n sectors
round : (c : After-repeat) →
    (t : List ℕ) → Repeats c.find-place.result.end (take c.args.n (set c.loop-place.ring (c.find-place.result.end - 1) c.find-place.result.shade)) t →
    Rounded c.args.counts.now c.args.n c.args.k c.args.start (last_raised c.args.n c.args.start c.loop-place.ring) c.find-place.result.end c.loop-place.raised
    (t ++ drop c.args.n (set c.loop-place.ring (c.find-place.result.end - 1) c.find-place.result.shade))
round c t rep = rounded c.loop-place.invariant.0 c.find-place.ensures c.if-i-eq0.false rep c.loop-place.invariant.1

pub overflow_add-raised : goal.overflow_add-raised
overflow_add-raised c = omega (arith, (round (goal.at.overflow_add-raised c).After-repeat _ c.repeat.ensures).few, c.requires.0.ready.size)

pub slice_bounds-ring-end-in-loop-place : goal.slice_bounds-ring-end-in-loop-place
slice_bounds-ring-end-in-loop-place c = omega (arith, (round (goal.at.slice_bounds-ring-end-in-loop-place c).After-repeat _ c.repeat.ensures).size, c.requires.0.ready.size)

pub slice_bounds-is_counted-end : goal.slice_bounds-is_counted-end
slice_bounds-is_counted-end c =
    sym (length-take-le _ _ (omega (arith, (round (goal.at.slice_bounds-is_counted-end c).After-repeat _ c.repeat.ensures).size, c.requires.0.ready.size)))

pub is_counted-requires : goal.is_counted-requires
is_counted-requires c = (round (goal.at.is_counted-requires c).After-repeat _ c.repeat.ensures).run

pub returns-then-is_counted : goal.returns-then-is_counted
returns-then-is_counted c = (round (goal.at.returns-then-is_counted c).After-repeat _ c.repeat.ensures).found (sym c.if-is_counted.true ∙ c.is_counted.ensures)

pub loop-place-smaller : goal.loop-place-smaller
loop-place-smaller c = (round (goal.at.loop-place-smaller c).After-repeat _ c.repeat.ensures).falls

pub loop-place-preserved : goal.loop-place-preserved
loop-place-preserved c =
    let x = round (goal.at.loop-place-preserved c).After-repeat _ c.repeat.ensures in (
      x.on (sym c.if-is_counted.false ∙ c.is_counted.ensures),
      x.counts,
      headed _ c.args.n _ (omega (arith, x.size, c.requires.0.ready.size)) x.run,
    )
