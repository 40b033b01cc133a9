-- `desk_texts_inner::place_homed` meets its contract: the line has room.
use Rattle.words.proofs.Needs.{arith}
use Rattle.text_fill_spec.specs.Filled.{longest, slots}
use Rattle.desk_texts_inner.proofs.place_homed.Goals as goal

pub place_line-requires-clause-n_bound : goal.place_line-requires-clause-n_bound
unfolding longest slots
place_line-requires-clause-n_bound c = omega (arith, c.requires.ring_len_bound)
