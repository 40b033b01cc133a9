-- `sheet_words_inner::number_or_other` meets its contract.
use Rattle.sheet_words_inner.proofs.Reading.{no_number_lem, number_is}
use Rattle.sheet_words_inner.proofs.number_or_other.Goals as goal

pub returns-in-None : goal.returns-in-None
returns-in-None c = no_number_lem c.args.t.now (rw c.in-None.is at c.parse_number.ensures)

pub returns-in-Some : goal.returns-in-Some
returns-in-Some c = number_is c.args.t.now c.in-Some.x (rw c.in-Some.is at c.parse_number.ensures)
