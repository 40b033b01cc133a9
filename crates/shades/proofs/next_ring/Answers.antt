-- `shades::next_ring` meets its contract. Behind the checks, the search with the counts up to the last and the reading lowered to their shades answers the next ring or that there is none.
use Rattle.words.proofs.Needs.{rules}
use Rattle.words.proofs.Needs.{arith, ◌≡◌, sym, refl, length, length-take, length-take-le, not-true, not-false}
use Rattle.shades.proofs.Asking.{cap-asks, next-asks, next-found, next-done}
use Rattle.shades.proofs.next_ring.Goals as goal

pub cap-start-requires : goal.cap-start-requires
cap-start-requires c =
    let p = c.in_ok-check_next.ensures in
    cap-asks c.args.s.now c.args.k (length c.args.out.now) c.args.counts.now p _ c.counted_to-j.ensures

pub slice_bounds-above-end : goal.slice_bounds-above-end
slice_bounds-above-end c = sym (length-take-le _ _ c.counted_to-j.ensures.within)

pub above-found-requires : goal.above-found-requires
above-found-requires c =
    let p = c.in_ok-check_next.ensures in
    next-asks c.args.s.now c.args.k (length c.args.out.now) c.args.counts.now p _
    c.counted_to-j.ensures _ c.cap-start.ensures

pub returns-then-not-found : goal.returns-then-not-found
returns-then-not-found c =
    let p = c.in_ok-check_next.ensures in (
      p,
      next-done c.args.s.now c.args.k (length c.args.out.now) c.args.counts.now p _
          c.counted_to-j.ensures _ c.cap-start.ensures _ c.above-found.ensures (not-true _ c.if-not-found.true),
      refl,
    )

pub slice_bounds-ring-end : goal.slice_bounds-ring-end
slice_bounds-ring-end c =
    let z : length c.above-found.result.ring ≡ 64 = search rules in
    let p = c.in_ok-check_next.ensures in
    omega (arith, p.0.0.0.0.0.0.1)

pub slice_bounds-copy_from_slice-end : goal.slice_bounds-copy_from_slice-end
slice_bounds-copy_from_slice-end c =
    let z : length c.above-found.result.ring ≡ 64 = search rules in
    let p = c.in_ok-check_next.ensures in
    sym (length-take-le _ _ (omega (arith, p.0.0.0.0.0.0.1)))

pub copy_from_slice-requires : goal.copy_from_slice-requires
copy_from_slice-requires c =
    let z : length c.above-found.result.ring ≡ 64 = search rules in
    let p = c.in_ok-check_next.ensures in
    let h = p.0.0.0.0.0.0.1 in
    let e = p.0.0.1 in
    simp length-take (omega arith)

pub returns : goal.returns
returns c =
    let p = c.in_ok-check_next.ensures in (
      p,
      next-found c.args.s.now c.args.k (length c.args.out.now) c.args.counts.now p _
          c.counted_to-j.ensures _ c.cap-start.ensures _
          c.above-found.ensures (not-false _ c.if-not-found.false) _ c.copy_from_slice.ensures.after,
    )
