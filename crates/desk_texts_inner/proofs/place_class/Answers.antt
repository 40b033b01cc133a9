-- `desk_texts_inner::place_class` meets its contract.
use Rattle.desk_texts_inner.proofs.place_class.Goals as goal

pub returns-in-Loose : goal.returns-in-Loose
returns-in-Loose c =
    rw c.in-Loose.is c.place_number.ensures

pub returns-in-Opening : goal.returns-in-Opening
returns-in-Opening c =
    rw c.in-Opening.is c.place_number-in-Opening.ensures

pub returns-in-Repeating : goal.returns-in-Repeating
returns-in-Repeating c =
    rw c.in-Repeating.is c.place_number-in-Repeating.ensures

pub returns-in-Single : goal.returns-in-Single
returns-in-Single c =
    rw c.in-Single.is c.place_words.ensures
