-- `picture_words_inner::print_spelt` meets its contract.
use Rattle.words.proofs.Needs.{not-true, not-false}
use Rattle.picture_words_inner.proofs.Words.{print-good, print-bad}
use Rattle.picture_words_inner.proofs.print_spelt.Goals as goal

pub returns-then-not-spell : goal.returns-then-not-spell
returns-then-not-spell c =
    let no = rw (not-true c.spell.result c.if-not-spell.true-raw)
    at c.spell.ensures in
    print-bad _ _ _ _ _ no c.place_malformed.ensures

pub returns : goal.returns
returns c =
    let yes' = rw (not-false c.spell.result
    c.if-not-spell.false-raw) at c.spell.ensures
    in
    print-good _ _ _ _ _ _ yes' c.print_target.ensures
