-- `sheet_words_inner::word_of` meets its contract.
use Rattle.sheet_words_inner.proofs.Reading.{told, word-1, word-2, word-3, word-4, word_none}
use Rattle.sheet_words_inner.proofs.word_of.Goals as goal

pub returns-then-eq : goal.returns-then-eq
returns-then-eq c = word-1 c.args.t.now (told _ _ _ _ c.as_slice.ensures c.if-eq.ensures)

pub returns-then-eq-2 : goal.returns-then-eq-2
returns-then-eq-2 c = word-2 c.args.t.now (told _ _ _ _ c.as_slice.ensures c.if-eq.ensures) (told _ _ _ _ c.as_slice-2.ensures c.if-eq-2.ensures)

pub returns-then-eq-3 : goal.returns-then-eq-3
returns-then-eq-3 c =
    word-3 c.args.t.now (told _ _ _ _ c.as_slice.ensures c.if-eq.ensures) (told _ _ _ _ c.as_slice-2.ensures c.if-eq-2.ensures) (told _ _ _ _ c.as_slice-3.ensures c.if-eq-3.ensures)

pub returns-then-eq-4 : goal.returns-then-eq-4
returns-then-eq-4 c =
    word-4 c.args.t.now (told _ _ _ _ c.as_slice.ensures c.if-eq.ensures) (told _ _ _ _ c.as_slice-2.ensures c.if-eq-2.ensures) (told _ _ _ _ c.as_slice-3.ensures c.if-eq-3.ensures)
    (told _ _ _ _ c.as_slice-4.ensures c.if-eq-4.ensures)

pub returns : goal.returns
returns c =
    word_none c.args.t.now (told _ _ _ _ c.as_slice.ensures c.if-eq.ensures) (told _ _ _ _ c.as_slice-2.ensures c.if-eq-2.ensures) (told _ _ _ _ c.as_slice-3.ensures c.if-eq-3.ensures)
    (told _ _ _ _ c.as_slice-4.ensures c.if-eq-4.ensures) _ c.number_or_other.ensures
