-- `set_places_inner::offer` meets its contract.
use Rattle.words.proofs.Needs.{arith, length-take, length-drop}
use Rattle.set_places_inner.proofs.Offering.{offer-room, offer-no, offer-yes}
use Rattle.set_places_inner.proofs.offer.Goals as goal

pub returns-then-not-may_join : goal.returns-then-not-may_join
returns-then-not-may_join c = offer-no c.requires.comparable c.args.rule c.args.d c.may_join.ensures c.if-not-may_join.true

pub returns : goal.returns
returns c =
    offer-yes c.requires.comparable c.args.rule c.args.d c.may_join.ensures c.requires.taken_bound
    c.if-not-may_join.false c.copy_from_slice.ensures.after
    c.copy_from_slice-2.ensures.after

pub slice_bounds-copy_from_slice-end : goal.slice_bounds-copy_from_slice-end
slice_bounds-copy_from_slice-end c = omega (arith, offer-room c.requires.comparable c.requires.taken_bound)

pub copy_from_slice-requires-2 : goal.copy_from_slice-requires-2
copy_from_slice-requires-2 c =
    let m = offer-room c.requires.comparable c.requires.taken_bound in
    simp (length-take, length-drop) (omega (arith, m))
