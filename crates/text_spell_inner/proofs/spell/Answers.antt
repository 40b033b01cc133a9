-- `text_spell_inner::spell` meets its contract.
use Rattle.words.proofs.Needs.{arith}
use Rattle.text_words_spec.proofs.Spelling.{spelt-all}
use Rattle.text_spell_inner.proofs.Spelling.{upto-not}
use Rattle.text_spell_inner.proofs.spell.Goals as goal

pub returns-in_default : goal.returns-in_default
returns-in_default c = let e = c.in_default.ensures in upto-not c.args.t.now c.loop-i.i c.loop-i-test.true e

pub returns : goal.returns
returns c = spelt-all c.args.t.now c.loop-i.out c.loop-i.invariant.0 (λ i h. c.loop-i.invariant.1 i (omega (arith, c.loop-i-test.false)))
