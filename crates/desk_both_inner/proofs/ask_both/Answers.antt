-- `desk_both_inner::ask_both` meets its contract.
use Rattle.desk_texts_inner.proofs.Putting.{put-good, put-bad}
use Rattle.words.proofs.Needs.{not-true, not-false}
use Rattle.desk_both_inner.proofs.ask_both.Goals as goal

pub returns-then-not-spell : goal.returns-then-not-spell
returns-then-not-spell c =
    let n = rw (not-true c.spell.result c.if-not-spell.true-raw)
    at c.spell.ensures in
    put-bad _ _ (λ q x. n q.0 x.0) _

pub returns-then-not-spell-2 : goal.returns-then-not-spell-2
returns-then-not-spell-2 c =
    let n = rw (not-true c.spell-2.result c.if-not-spell-2.true-raw)
    at c.spell-2.ensures in
    put-bad _ _ (λ q x. n q.1 x.1) _

pub returns : goal.returns
returns c =
    let p = rw (not-false c.spell.result c.if-not-spell.false-raw) at c.spell.ensures in
    let q = rw (not-false c.spell-2.result c.if-not-spell-2.false-raw) at c.spell-2.ensures in
    put-good _ _ _ _ _ _ (_, _) (p, q) c.answer_both.ensures
