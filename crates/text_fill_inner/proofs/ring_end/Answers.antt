-- `text_fill_inner::ring_end` meets its contract.
use Rattle.words.proofs.Needs.{rules}
use Rattle.words.proofs.Needs.{arith, refl, inl, inr}
use Rattle.text_fill_inner.proofs.ring_end.Goals as goal

pub returns-then-len-q : goal.returns-then-len-q
returns-then-len-q c = (search rules, search rules, inr (refl, omega arith))

pub returns : goal.returns
returns c = (search rules, search rules, inl refl)
