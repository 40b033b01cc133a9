-- `shades_raise_inner::reach` meets its contract. The loop: the first i sectors fit into the counts, and the first p of them are a Lyndon word.
use Rattle.words.proofs.Needs.{rules}
use Rattle.words.proofs.Needs.{◌-◌, arith, sym, get_or, length-set, length-take-le, not-true}
use Rattle.shades_raise_inner.proofs.Blocking.{find-part, find-fits, find-start, reach-start, reach-none, reach-end, reach-shade, reach-asks, reach-stop, reach-more, reach-count}
use Rattle.shades_raise_inner.proofs.reach.Goals as goal

pub slice_bounds-w-count : goal.slice_bounds-w-count
slice_bounds-w-count c = omega (arith, c.requires.0.ready.pos)

pub slice_bounds-w-end : goal.slice_bounds-w-end
slice_bounds-w-end c = find-part (search rules) c.requires.0 (c.args.n - 1) (omega (arith, c.requires.0.ready.pos))

pub slice_bounds-fitting-length : goal.slice_bounds-fitting-length
slice_bounds-fitting-length c =
    sym (length-take-le _ _ (find-part (search rules) c.requires.0 (c.args.n - 1)
    (omega (arith, c.requires.0.ready.pos))))

pub fitting-requires : goal.fitting-requires
fitting-requires c = find-fits (search rules) c.requires.0 (c.args.n - 1) (omega (arith, c.requires.0.ready.pos))

pub returns-then-n-p : goal.returns-then-n-p
returns-then-n-p c =
    find-start (search rules) c.requires.0 (c.args.n - 1)
    (omega (arith, c.requires.0.ready.pos)) c.fitting.ensures
    (λ e. omega (arith, c.requires.0.ready.pos))

pub slice_bounds-w-end-2 : goal.slice_bounds-w-end-2
slice_bounds-w-end-2 c = find-part (search rules) c.requires.0 c.args.p (omega (arith, c.if-n-p.false))

pub slice_bounds-fitting-end : goal.slice_bounds-fitting-end
slice_bounds-fitting-end c = sym (length-take-le _ _ (find-part (search rules) c.requires.0 c.args.p (omega (arith, c.if-n-p.false))))

pub fitting-fit-requires : goal.fitting-fit-requires
fitting-fit-requires c = find-fits (search rules) c.requires.0 c.args.p (omega (arith, c.if-n-p.false))

pub returns-then-fit-p : goal.returns-then-fit-p
returns-then-fit-p c =
    find-start (search rules) c.requires.0
    c.args.p (omega (arith, c.if-n-p.false))
    c.fitting-fit.ensures (λ e. absurd (omega (arith, c.if-fit-p.true)))

pub loop-i-init : goal.loop-i-init
loop-i-init c =
    record {
      size = search rules;
      opening = c.requires.0;
      head = c.requires.1;
      short = omega (arith, c.if-n-p.false);
      from = omega arith;
      inside = omega (arith, c.if-n-p.false);
      left =
          reach-start (search rules) c.requires.0
          c.args.p (omega (arith, c.if-n-p.false))
          c.fitting-fit.ensures (λ h. omega (arith, c.if-fit-p.false));
    }

pub overflow_add-i : goal.overflow_add-i
overflow_add-i c = omega (arith, c.loop-i.invariant.inside, c.requires.0.ready.size)

pub bounds-w-i : goal.bounds-w-i
bounds-w-i c = omega (arith, c.loop-i.invariant.inside, c.loop-i.invariant.size, c.requires.0.ready.size)

pub overflow_cast-x : goal.overflow_cast-x
overflow_cast-x c = omega (arith, reach-shade c.loop-i.invariant)

pub offset_bounds-rem-x : goal.offset_bounds-rem-x
offset_bounds-rem-x c = omega (arith, reach-shade c.loop-i.invariant)

pub bounds-rem-x : goal.bounds-rem-x
bounds-rem-x c = omega (arith, reach-shade c.loop-i.invariant, c.loop-i.invariant.left.size)

pub returns-then-rem-x-eq0 : goal.returns-then-rem-x-eq0
returns-then-rem-x-eq0 c = reach-none c.loop-i.invariant c.if-rem-x-eq0.true

pub offset_bounds-rem-x-in-loop-i : goal.offset_bounds-rem-x-in-loop-i
offset_bounds-rem-x-in-loop-i c = omega (arith, reach-shade c.loop-i.invariant)

pub bounds-rem-x-in-loop-i : goal.bounds-rem-x-in-loop-i
bounds-rem-x-in-loop-i c = omega (arith, reach-shade c.loop-i.invariant, c.loop-i.invariant.left.size)

pub bounds-rem-x-in-loop-i-2 : goal.bounds-rem-x-in-loop-i-2
bounds-rem-x-in-loop-i-2 c = omega (arith, reach-shade c.loop-i.invariant, c.loop-i.invariant.left.size)

pub overflow_add-i-then-i-ne3 : goal.overflow_add-i-then-i-ne3
overflow_add-i-then-i-ne3 c = omega (arith, c.loop-i.invariant.inside, c.requires.0.ready.size)

pub loop-i-smaller-then-i-ne3 : goal.loop-i-smaller-then-i-ne3
loop-i-smaller-then-i-ne3 c = omega (arith, c.loop-i.invariant.inside)

pub loop-i-preserved-then-i-ne3 : goal.loop-i-preserved-then-i-ne3
loop-i-preserved-then-i-ne3 c = reach-more c.loop-i.invariant c.if-rem-x-eq0.false c.loop-i-test.true

pub slice_bounds-w-end-in-loop-i : goal.slice_bounds-w-end-in-loop-i
slice_bounds-w-end-in-loop-i c =
    omega (
      arith,
      c.loop-i.invariant.short,
      c.loop-i.invariant.size,
      c.requires.0.ready.size,
    )

pub slice_bounds-completable-end : goal.slice_bounds-completable-end
slice_bounds-completable-end c =
    sym (length-take-le _ _ (omega (
      arith,
      c.loop-i.invariant.short,
      c.loop-i.invariant.size,
      c.requires.0.ready.size,
    )))

pub slice_bounds-rem-end : goal.slice_bounds-rem-end
slice_bounds-rem-end c =
    simp length-set
    (omega (arith, c.loop-i.invariant.left.size, c.requires.0.ready.shades))

pub slice_bounds-completable-end-in-loop-i : goal.slice_bounds-completable-end-in-loop-i
slice_bounds-completable-end-in-loop-i c =
    sym (length-take-le _ _ (simp length-set (omega (
      arith,
      c.loop-i.invariant.left.size,
      c.requires.0.ready.shades,
    ))))

pub completable-requires : goal.completable-requires
completable-requires c = reach-asks c.loop-i.invariant c.if-rem-x-eq0.false

pub offset_bounds-rem-x-then-not-completable : goal.offset_bounds-rem-x-then-not-completable
offset_bounds-rem-x-then-not-completable c = omega (arith, reach-shade c.loop-i.invariant)

pub bounds-rem-x-then-not-completable : goal.bounds-rem-x-then-not-completable
bounds-rem-x-then-not-completable c = omega (arith, reach-shade c.loop-i.invariant)

pub overflow_add-rem : goal.overflow_add-rem
overflow_add-rem c =
    omega (
      arith,
      reach-count c.loop-i.invariant c.if-rem-x-eq0.false
          (get_or c.args.w c.loop-i.i 0),
    )

pub bounds-rem-x-then-not-completable-2 : goal.bounds-rem-x-then-not-completable-2
bounds-rem-x-then-not-completable-2 c = omega (arith, reach-shade c.loop-i.invariant)

pub returns-then-not-completable : goal.returns-then-not-completable
returns-then-not-completable c =
    reach-stop c.loop-i.invariant c.if-rem-x-eq0.false
    (rw (not-true c.completable.result c.if-not-completable.true-raw) at c.completable.ensures)

pub overflow_add-i-in-loop-i : goal.overflow_add-i-in-loop-i
overflow_add-i-in-loop-i c =
    omega (arith, c.loop-i.invariant.inside, c.requires.0.ready.size)

pub loop-i-smaller : goal.loop-i-smaller
loop-i-smaller c = omega (arith, c.loop-i.invariant.inside)

pub loop-i-preserved : goal.loop-i-preserved
loop-i-preserved c =
    reach-more c.loop-i.invariant c.if-rem-x-eq0.false
    c.loop-i-test.true

pub returns : goal.returns
returns c = reach-end c.loop-i.invariant (λ h. omega (arith, c.loop-i-test.false))
