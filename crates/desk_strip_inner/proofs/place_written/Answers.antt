-- `desk_strip_inner::place_written` meets its contract.
use Rattle.words.proofs.Needs.{rules}
use Rattle.text_fill_spec.specs.Filled.{slots, longest}
use Rattle.desk_strip_inner.proofs.place_written.Goals as goal

pub place_ring_line-requires : goal.place_ring_line-requires
unfolding slots longest
place_ring_line-requires c = search rules
