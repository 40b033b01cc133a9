-- `test_pictures::sheet` is safe: what is drawn lies within the buffer.
use Rattle.words.proofs.Needs.{arith, length-take}
use Rattle.test_pictures.proofs.sheet.Goals as goal

pub slice_bounds-buf-end : goal.slice_bounds-buf-end
slice_bounds-buf-end c =
    let f = rw c.in-Ok.is at c.target.ensures in
    omega (arith, f.2)

pub slice_bounds-text-end : goal.slice_bounds-text-end
slice_bounds-text-end c =
    let f = rw c.in-Ok.is at c.target.ensures in
    simp length-take (omega (arith, f.2))
