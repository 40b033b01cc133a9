-- `desk_texts_inner::place_plain` meets its contract.
use Rattle.desk_texts_inner.proofs.Plain.{plain-short}
use Rattle.desk_texts_inner.proofs.place_plain.Goals as goal

pub place_line-requires : goal.place_line-requires
place_line-requires c = record { n_bound = plain-short c.args.text.now c.requires.text_len_bound; desk_room_in_bounds = c.requires.desk_room_in_bounds }
