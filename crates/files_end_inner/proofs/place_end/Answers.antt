-- `files_end_inner::place_end` meets its contract: the text of its case, or none, stands there.
use Rattle.files_end_inner.proofs.Placing.{end_read, end-move}
use Rattle.files_end_inner.proofs.place_end.Goals as goal

pub returns-in-Read : goal.returns-in-Read
returns-in-Read c = end_read _ _ _ _ _ c.in-Read.is c.place_text.ensures

pub returns-in-Move : goal.returns-in-Move
returns-in-Move c = end-move _ _ _ c.in-Move.is
