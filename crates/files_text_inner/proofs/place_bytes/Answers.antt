-- `files_text_inner::place_bytes` meets its contract: the record is written, since a ring that passes the checks is not refused where there is room.
use Rattle.files_text_inner.proofs.Placing.{answer-puts}
use Rattle.files_text_inner.proofs.place_bytes.Goals as goal

pub returns : goal.returns
returns c =
    rw c.unwrap_or.ensures (answer-puts c.args.ring.now c.args.k c.args.kind c.requires.answered.passed _ _ c.write_record.result _ c.requires.record_room_in_bounds c.write_record.ensures)
