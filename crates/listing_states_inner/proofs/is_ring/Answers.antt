-- `listing_states_inner::is_ring` meets its contract.
use Rattle.listing_states_inner.proofs.States.{ring-decided}
use Rattle.listing_states_inner.proofs.is_ring.Goals as goal

pub returns : goal.returns
returns c =
    let p = c.in-Ok.ensures in
    ring-decided c.args.ring.now c.args.k c.in-Ok.c c.is_necklace.result p.0 p.1 c.is_necklace.ensures
