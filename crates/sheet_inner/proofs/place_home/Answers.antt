-- `sheet_inner::place_home` meets its contract.
use Rattle.words.proofs.Needs.{ℕ, ◌≤◌, arith, ◌≡◌, refl, ◌∙◌, List, take, length-take-le, length, length-drop, length-append, take_at}
use Rattle.picture_ring_inner.proofs.Drawing.{turned-long, turned-short, turned-some, turned-below}
use Rattle.sheet_inner.proofs.Cells.{home-le, home_fits}
use Rattle.sheet_inner.proofs.place_home.Goals as goal

pub write_turn-requires : goal.write_turn-requires
write_turn-requires c = (home-le _ _ c.least_shift-o.ensures c.requires.le_k.2, length-take-le _ _ c.requires.le_k.3)

pub slice_bounds-turned-end-2 : goal.slice_bounds-turned-end-2
slice_bounds-turned-end-2 c =
    let l = home-le c.args.ring.now _ c.least_shift-o.ensures c.requires.le_k.2 in
    let v = turned-long c.args.ring.now _ l _ c.write_turn.ensures in
    simp (length-append, length-drop) (omega (arith, v, c.requires.le_k.3))

pub place_cell-requires-clause-le_k : goal.place_cell-requires-clause-le_k
place_cell-requires-clause-le_k c =
    let l = home-le c.args.ring.now _ c.least_shift-o.ensures c.requires.le_k.2 in
    let v = turned-long c.args.ring.now _ l _ c.write_turn.ensures in
    let t = take_at _ _ (length c.args.ring.now) v ∙ c.write_turn.ensures in
    (c.requires.le_k.0, c.requires.le_k.1, turned-some c.args.ring.now _ l _ t c.requires.le_k.2, turned-short c.args.ring.now _ l _ t c.requires.le_k.3, c.requires.le_k.4)

pub place_cell-requires-clause-below : goal.place_cell-requires-clause-below
place_cell-requires-clause-below c =
    let l = home-le c.args.ring.now _ c.least_shift-o.ensures c.requires.le_k.2 in
    let v = turned-long c.args.ring.now _ l _ c.write_turn.ensures in
    turned-below c.args.ring.now _ l _ (take_at _ _ (length c.args.ring.now) v ∙ c.write_turn.ensures) _ c.requires.le_k.2 c.requires.below

pub returns : goal.returns
returns c =
    let l = home-le c.args.ring.now _ c.least_shift-o.ensures c.requires.le_k.2 in
    let v = turned-long c.args.ring.now _ l _ c.write_turn.ensures in
    home_fits c.args.ring.now _ c.least_shift-o.ensures _ (take_at _ _ (length c.args.ring.now) v ∙ c.write_turn.ensures) _ _ _ _ _ _ c.place_cell.ensures
