-- `text_fill_inner::number_at` meets its contract.
use Rattle.words.proofs.Needs.{sym, List·get_d-eq-default}
use Rattle.text_fill_inner.proofs.number_at.Goals as goal

pub returns : goal.returns
returns c = sym (List·get_d-eq-default c.args.numbers.now 0 c.if-i-numbers.false)
