-- `shades_raise_inner::find` meets its contract. The loop: each place behind i is blocked, rem is what the counts leave beside the sectors before i, and al is w: a test hands back both as
-- they came.
use Rattle.words.proofs.Needs.{rules}
use Rattle.words.proofs.Needs.{◌-◌, arith, ◌≡◌, refl, sym, ap, ◌∙◌, length, get_or}
use Rattle.shades_raise_inner.proofs.Blocking.{find-asks, Tried, find-found, find-end, find-more, find-shade, find-count}
use Rattle.shades_raise_inner.proofs.find.Goals as goal
use Rattle.shades_raise_inner.proofs.find.Goals.{After-lift-b}

pub reach-fit-requires : goal.reach-fit-requires
reach-fit-requires c = c.requires

pub loop-w-init : goal.loop-w-init
loop-w-init c = (c.reach-fit.ensures, refl)

pub slice_bounds-lift-end : goal.slice_bounds-lift-end
slice_bounds-lift-end c =
    let z : length c.args.w ≡ 64 = search rules in
    sym (ap length c.loop-w.invariant.1 ∙ z)

pub lift-b-requires : goal.lift-b-requires
lift-b-requires c = rw c.loop-w.invariant.1 (find-asks (search rules) c.requires.0 c.loop-w.invariant.0)

-- what was told of place i; al, which was lent for it, is w
tried : (c : After-lift-b) →
    Tried c.args.w c.args.n c.args.k c.args.counts.now c.loop-w.i c.loop-w.rem c.lift-b.result
tried c =
    record { size = search rules; opening = c.requires.0; at = c.loop-w.invariant.0; up = rw c.loop-w.invariant.1 at c.lift-b.ensures.lifted_to }

pub overflow_add-result : goal.overflow_add-result
overflow_add-result c = let t = tried (goal.at.overflow_add-result c).After-lift-b in omega (arith, t.at.inside, t.opening.ready.size)

pub returns-then-b-k : goal.returns-then-b-k
returns-then-b-k c = find-found (tried (goal.at.returns-then-b-k c).After-lift-b) c.if-b-k.true

pub returns-then-i-eq0 : goal.returns-then-i-eq0
returns-then-i-eq0 c = find-end (tried (goal.at.returns-then-i-eq0 c).After-lift-b) (λ h. omega (arith, c.if-b-k.false)) c.if-i-eq0.true

pub bounds-w-i : goal.bounds-w-i
bounds-w-i c = let t = tried (goal.at.bounds-w-i c).After-lift-b in omega (arith, t.at.inside, t.opening.ready.size)

pub overflow_cast-x : goal.overflow_cast-x
overflow_cast-x c = omega (arith, find-shade (tried (goal.at.overflow_cast-x c).After-lift-b) c.if-i-eq0.false)

pub offset_bounds-rem-x : goal.offset_bounds-rem-x
offset_bounds-rem-x c = omega (arith, find-shade (tried (goal.at.offset_bounds-rem-x c).After-lift-b) c.if-i-eq0.false)

pub bounds-rem-x : goal.bounds-rem-x
bounds-rem-x c = let t = tried (goal.at.bounds-rem-x c).After-lift-b in omega (arith, find-shade t c.if-i-eq0.false, t.at.remains.size)

pub overflow_add-rem : goal.overflow_add-rem
overflow_add-rem c =
    rw c.lift-b.ensures.rem_unchanged (omega (arith, find-count (tried (goal.at.overflow_add-rem c).After-lift-b) (get_or c.args.w (c.loop-w.i - 1) 0)))

pub bounds-rem-x-in-loop-w : goal.bounds-rem-x-in-loop-w
bounds-rem-x-in-loop-w c = let t = tried (goal.at.bounds-rem-x-in-loop-w c).After-lift-b in omega (arith, find-shade t c.if-i-eq0.false, t.at.remains.size)

pub loop-w-preserved : goal.loop-w-preserved
loop-w-preserved c = (
  rw c.lift-b.ensures.rem_unchanged (find-more (tried (goal.at.loop-w-preserved c).After-lift-b) (λ h. omega (arith, c.if-b-k.false)) c.if-i-eq0.false),
  c.lift-b.ensures.w_unchanged ∙ c.loop-w.invariant.1,
)
