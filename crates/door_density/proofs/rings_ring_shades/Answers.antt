-- `door_density::rings_ring_shades` meets its contract.
use Rattle.door_density.proofs.rings_ring_shades.Goals as goal

pub returns : goal.returns
returns c = record { answer = c.ring_shades.result; says = c.ring_shades.ensures; same = c.done.ensures }
