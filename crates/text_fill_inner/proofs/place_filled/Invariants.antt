-- `text_fill_inner::place_filled` meets its contract. The loop's invariant, `Filling`: the first i characters are filled and placed.
use Rattle.words.proofs.Needs.{◌-◌, ◌≤◌, ◌≡◌, length}
use Rattle.text_fill_inner.proofs.Filling.{Filling}
use Rattle.text_fill_inner.proofs.place_filled.Given as goal

abbrev pub invariant-loop-i : goal.invariant-loop-i
invariant-loop-i l =
    (l.i ≤ length l.text) × (l.j ≤ l.i) × (l.q ≤ length l.rings) × Filling l.text l.numbers l.n l.rings l.initial.buf l.at l.i l.j l.q l.p l.buf × (length l.buf ≡ length l.initial.buf)

abbrev pub decreases-loop-i : goal.decreases-loop-i
decreases-loop-i l = length l.text - l.i
