-- `text_spell_inner::spell` meets its contract. The loop's invariant: the sectors passed are spelt.
use Rattle.words.proofs.Needs.{◌≡◌, length}
use Rattle.text_spell_inner.proofs.Spelling.{Upto}
use Rattle.text_spell_inner.proofs.spell.Given as goal

abbrev pub invariant-loop-i : goal.invariant-loop-i
invariant-loop-i l = (length l.out ≡ length l.t) × Upto l.t l.out l.i
