-- `files_text_inner::place_record` meets its contract: a line, or the bytes of the other form.
use Rattle.words.proofs.Needs.{rules}
use Rattle.files_text_inner.proofs.Placing.{line-puts, answered-few}
use Rattle.files_text_inner.proofs.place_record.Goals as goal

pub returns-in-Read : goal.returns-in-Read
returns-in-Read c =
    line-puts _ _ _ _ _ _ _ _ _ _ c.in-Read.is (search rules) (search rules) (search rules) (answered-few _ _ _ c.requires.answered) c.place_line.ensures
