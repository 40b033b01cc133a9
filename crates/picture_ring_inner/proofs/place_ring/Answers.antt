-- `picture_ring_inner::place_ring` meets its contract.
use Rattle.words.proofs.Needs.{arith, ◌∙◌, length-take-le, length, length-drop, length-append, take_at}
use Rattle.picture_ring_inner.proofs.Drawing.{run-le, turned-long, turned-short, turned-from, turned-below, ring-fits}
use Rattle.picture_ring_inner.proofs.place_ring.Goals as goal

pub write_turn-requires : goal.write_turn-requires
write_turn-requires c = (run-le _ c.args.ring.now 0 _ c.run_at-o.ensures, length-take-le _ _ c.requires.le_k.3)

pub slice_bounds-turned-end-2 : goal.slice_bounds-turned-end-2
slice_bounds-turned-end-2 c =
    let l = run-le _ c.args.ring.now 0 _ c.run_at-o.ensures in
    let v = turned-long c.args.ring.now _ l _ c.write_turn.ensures in
    simp (length-append, length-drop) (omega (arith, v, c.requires.le_k.3))

pub place_arcs-requires-clause-le_k : goal.place_arcs-requires-clause-le_k
place_arcs-requires-clause-le_k c =
    let l = run-le _ c.args.ring.now 0 _ c.run_at-o.ensures in
    let v = turned-long c.args.ring.now _ l _ c.write_turn.ensures in
    let t = take_at _ _ (length c.args.ring.now) v ∙ c.write_turn.ensures in
    (c.requires.le_k.0, c.requires.le_k.1, turned-short c.args.ring.now _ l _ t c.requires.le_k.3, turned-from c.args.ring.now _ l _ t)

pub place_arcs-requires-clause-below : goal.place_arcs-requires-clause-below
place_arcs-requires-clause-below c =
    let l = run-le _ c.args.ring.now 0 _ c.run_at-o.ensures in
    let v = turned-long c.args.ring.now _ l _ c.write_turn.ensures in
    turned-below c.args.ring.now _ l _ (take_at _ _ (length c.args.ring.now) v ∙ c.write_turn.ensures) _ c.requires.le_k.2 c.requires.below

pub returns : goal.returns
returns c =
    let l = run-le _ c.args.ring.now 0 _ c.run_at-o.ensures in
    let v = turned-long c.args.ring.now _ l _ c.write_turn.ensures in
    ring-fits c.args.ring.now _ c.run_at-o.ensures _ (take_at _ _ (length c.args.ring.now) v ∙ c.write_turn.ensures) _ _ _ _ _ _ c.place_arcs.ensures
