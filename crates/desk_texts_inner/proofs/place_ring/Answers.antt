-- `desk_texts_inner::place_ring` meets its contract: the line has room.
use Rattle.words.proofs.Needs.{arith}
use Rattle.text_fill_spec.specs.Filled.{longest, slots}
use Rattle.desk_texts_inner.proofs.place_ring.Goals as goal

pub place_ring_line-requires-clause-ring_bound : goal.place_ring_line-requires-clause-ring_bound
unfolding longest slots
place_ring_line-requires-clause-ring_bound c = omega (arith, c.requires.ring_len_bound)
