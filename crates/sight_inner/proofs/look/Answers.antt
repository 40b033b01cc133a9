-- `sight_inner::look` meets its contract: the reading reversed stands at the front of the array.
use Rattle.words.proofs.Needs.{ℕ, arith, sym, ap, ◌∙◌, List, length, length-append, length-take, length-drop, length-reverse, take_at}
use Rattle.sight_inner.proofs.look.Goals as goal

pub slice_bounds-back-end-2 : goal.slice_bounds-back-end-2
slice_bounds-back-end-2 c =
    let y = ap (λ (v : List ℕ). length v) c.write_reversed.ensures ∙ length-reverse c.args.reading.now in
    simp (length-append, length-drop) (omega (arith, y))

pub slice_bounds-decide-end : goal.slice_bounds-decide-end
slice_bounds-decide-end c =
    let y = ap (λ (v : List ℕ). length v) c.write_reversed.ensures ∙ length-reverse c.args.reading.now in
    simp (length-take, length-append, length-drop) (omega (arith, y))

pub decide-requires : goal.decide-requires
decide-requires c =
    let y = ap (λ (v : List ℕ). length v) c.write_reversed.ensures ∙ length-reverse c.args.reading.now in
    (c.requires.0, c.requires.1, take_at _ _ (length c.args.reading.now) y ∙ c.write_reversed.ensures)
