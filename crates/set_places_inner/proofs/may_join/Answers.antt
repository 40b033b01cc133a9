-- `set_places_inner::may_join` meets its contract: what is told of the fronts, and by the rule of the other sides.
use Rattle.words.proofs.Needs.{ℕ, arith, ◌∙◌, sym, ap, List, length, length-append, length-take, length-drop, length-reverse, take_at, not-true}
use Rattle.words.proofs.Needs.{not-false}
use Rattle.set_places_inner.proofs.Joining.{not-clear-in, may-guarded}
use Rattle.set_places_inner.proofs.may_join.Goals as goal

pub returns-then-not-is_clear : goal.returns-then-not-is_clear
returns-then-not-is_clear c =
    not-clear-in c.requires c.args.d c.is_clear.ensures c.args.rule (not-true _ c.if-not-is_clear.true-raw)

pub slice_bounds-write_reversed-end : goal.slice_bounds-write_reversed-end
slice_bounds-write_reversed-end c = simp length-take (omega (arith, c.requires.fit.short))

pub write_reversed-requires : goal.write_reversed-requires
write_reversed-requires c = simp length-take (omega (arith, c.requires.fit.short))

pub slice_bounds-back-end-in-Guarded : goal.slice_bounds-back-end-in-Guarded
slice_bounds-back-end-in-Guarded c =
    let y = ap (λ (v : List ℕ). length v) c.write_reversed.ensures ∙ length-reverse c.args.ring.now in
    simp (length-append, length-drop) (omega (arith, y))

pub is_guarded-requires : goal.is_guarded-requires
is_guarded-requires c =
    let y = ap (λ (v : List ℕ). length v) c.write_reversed.ensures ∙ length-reverse c.args.ring.now in
    record { comparable = c.requires; back_value = take_at _ _ (length c.args.ring.now) y ∙ c.write_reversed.ensures }

pub returns-in-Plain : goal.returns-in-Plain
returns-in-Plain c = rw c.in-Plain.is (sym (sym c.is_clear.ensures ∙ not-false _ c.if-not-is_clear.false-raw))

pub returns-in-Guarded : goal.returns-in-Guarded
returns-in-Guarded c =
    rw c.in-Guarded.is
    (may-guarded c.requires c.args.d c.is_clear.ensures
    (not-false _ c.if-not-is_clear.false-raw) c.is_guarded.ensures)
