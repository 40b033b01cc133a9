-- `shades_lift_inner::possible` meets its contract. The shade is barred where none is left of it, or where the pool leaves no completion. What was changed for the test is put back.
use Rattle.words.proofs.Needs.{◌-◌, add-one, arith, sym, refl, ◌∙◌, take, get_or, length-set, length-take-le, take-suc-set, set-set, set-get_or}
use Rattle.shades_lift_inner.proofs.Barring.{allows-none, allows-part, completing}
use Rattle.shades_lift_inner.proofs.possible.Goals as goal

pub offset_bounds-rem-b : goal.offset_bounds-rem-b
offset_bounds-rem-b c = omega (arith, c.requires.shade, c.requires.shades)

pub bounds-rem-b : goal.bounds-rem-b
bounds-rem-b c = omega (arith, c.requires.shade, c.requires.shades, c.requires.slots)

pub returns-then-many-eq0 : goal.returns-then-many-eq0
returns-then-many-eq0 c = record { allows = allows-none _ _ _ c.if-many-eq0.true; w_unchanged = refl; rem_unchanged = refl }

pub bounds-w-l : goal.bounds-w-l
bounds-w-l c = omega (arith, c.requires.inside, c.requires.size)

pub overflow_cast-w : goal.overflow_cast-w
overflow_cast-w c = omega (arith, c.requires.shade, c.requires.shades)

pub bounds-w-l-2 : goal.bounds-w-l-2
bounds-w-l-2 c = omega (arith, c.requires.inside, c.requires.size)

pub offset_bounds-rem-b-2 : goal.offset_bounds-rem-b-2
offset_bounds-rem-b-2 c = omega (arith, c.requires.shade, c.requires.shades)

pub bounds-rem-b-2 : goal.bounds-rem-b-2
bounds-rem-b-2 c = omega (arith, c.requires.shade, c.requires.shades, c.requires.slots)

pub overflow_add-l : goal.overflow_add-l
overflow_add-l c = omega (arith, c.requires.inside)

pub slice_bounds-completable-end : goal.slice_bounds-completable-end
slice_bounds-completable-end c = simp length-set (omega (arith, c.requires.inside, c.requires.size))

pub slice_bounds-completable-end-2 : goal.slice_bounds-completable-end-2
slice_bounds-completable-end-2 c = sym (length-take-le _ _ (simp length-set (omega (arith, c.requires.inside, c.requires.size))))

pub slice_bounds-completable-end-3 : goal.slice_bounds-completable-end-3
slice_bounds-completable-end-3 c = simp length-set (omega (arith, c.requires.shades, c.requires.slots))

pub slice_bounds-completable-end-4 : goal.slice_bounds-completable-end-4
slice_bounds-completable-end-4 c = sym (length-take-le _ _ (simp length-set (omega (arith, c.requires.shades, c.requires.slots))))

pub completable-r-requires : goal.completable-r-requires
completable-r-requires c = completing _ _ _ _ _ c.requires

pub bounds-w-l-3 : goal.bounds-w-l-3
bounds-w-l-3 c = simp length-set (omega (arith, c.requires.inside, c.requires.size))

pub offset_bounds-rem-b-3 : goal.offset_bounds-rem-b-3
offset_bounds-rem-b-3 c = omega (arith, c.requires.shade, c.requires.shades)

pub bounds-rem-b-3 : goal.bounds-rem-b-3
bounds-rem-b-3 c = simp length-set (omega (arith, c.requires.shade, c.requires.shades, c.requires.slots))

pub returns : goal.returns
returns c = record {
  allows = allows-part (take c.args.l c.args.w.now) c.args.b c.args.k c.args.rem.now _ c.requires.shade (omega (arith, c.requires.shades, c.requires.slots)) c.requires.past c.if-many-eq0.false
      (rw (add-one c.args.l, take-suc-set c.args.w.now c.args.l c.args.b (omega (arith, c.requires.inside, c.requires.size))) at c.completable-r.ensures);
  w_unchanged = set-set c.args.w.now c.args.l c.args.b (get_or c.args.w.now c.args.l 0) ∙ set-get_or c.args.w.now c.args.l 0;
  rem_unchanged = set-set c.args.rem.now c.args.b (get_or c.args.rem.now c.args.b 0 - 1) (get_or c.args.rem.now c.args.b 0) ∙ set-get_or c.args.rem.now c.args.b 0;
}
