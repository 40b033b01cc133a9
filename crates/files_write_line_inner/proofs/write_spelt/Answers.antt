-- `files_write_line_inner::write_spelt` meets its contract: what the writer answered of the reading that is spelt.
use Rattle.words.proofs.Needs.{not-false}
use Rattle.files_write_line_inner.proofs.Spelling.{spelt-answer}
use Rattle.files_write_line_inner.proofs.write_spelt.Goals as goal

pub returns : goal.returns
returns c =
    spelt-answer c.args.kind c.args.k c.args.t.now c.args.buf.now c.args.at _ (rw (not-false c.spell.result c.if-not-spell.false-raw) at c.spell.ensures)
    c.requires.record_room_in_bounds c.write_record.result _ c.write_record.ensures
