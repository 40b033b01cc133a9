-- `shades_next_inner::above` meets its contract. Where the reading is no prenecklace, its longest beginning that is one is repeated first.
use Rattle.words.proofs.Needs.{rules}
use Rattle.words.proofs.Needs.{arith, ◌∙◌, sym, length-take-le}
use Rattle.shades_next_inner.proofs.Seeking.{above-opening, above-asks, above-size, above-run, above-found, above_on, above-answers}
use Rattle.shades_next_inner.proofs.above.Goals as goal

pub slice_bounds-scan-end : goal.slice_bounds-scan-end
slice_bounds-scan-end c = sym c.requires.reading.long

pub scan-begun-requires : goal.scan-begun-requires
scan-begun-requires c = omega (arith, c.requires.reading.long, c.requires.pos)

pub seek-requires : goal.seek-requires
seek-requires c = above-opening (search rules) c.requires c.scan-begun.ensures c.if-begun-n.true

pub returns-then-begun-n : goal.returns-then-begun-n
returns-then-begun-n c = c.seek.ensures

pub slice_bounds-repeat-end : goal.slice_bounds-repeat-end
slice_bounds-repeat-end c = sym c.requires.reading.long

pub repeat-requires : goal.repeat-requires
repeat-requires c = above-asks (search rules) c.requires c.scan-begun.ensures

pub slice_bounds-ring-end-2 : goal.slice_bounds-ring-end-2
slice_bounds-ring-end-2 c =
    let z = above-size (search rules) c.requires c.scan-begun.ensures c.if-begun-n.false c.repeat.ensures in
    omega (arith, z, c.requires.size)

pub slice_bounds-is_counted-end : goal.slice_bounds-is_counted-end
slice_bounds-is_counted-end c =
    let z = above-size (search rules) c.requires c.scan-begun.ensures c.if-begun-n.false c.repeat.ensures in
    sym (length-take-le _ _ (omega (arith, z, c.requires.size)))

pub is_counted-requires : goal.is_counted-requires
is_counted-requires c =
    above-run (search rules) c.requires c.scan-begun.ensures c.if-begun-n.false c.repeat.ensures

pub returns-then-is_counted : goal.returns-then-is_counted
returns-then-is_counted c =
    above-found (search rules) c.requires c.scan-begun.ensures c.if-begun-n.false c.repeat.ensures
    (sym c.if-is_counted.true ∙ c.is_counted.ensures)

pub seek-requires-2 : goal.seek-requires-2
seek-requires-2 c =
    above_on (search rules) c.requires c.scan-begun.ensures c.if-begun-n.false c.repeat.ensures
    (sym c.if-is_counted.false ∙ c.is_counted.ensures)

pub returns : goal.returns
returns c =
    above-answers (search rules) c.requires c.scan-begun.ensures c.if-begun-n.false
    c.repeat.ensures
    (sym c.if-is_counted.false ∙ c.is_counted.ensures) c.seek-2.ensures
