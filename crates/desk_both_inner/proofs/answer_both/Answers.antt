-- `desk_both_inner::answer_both` meets its contract.
use Rattle.desk_both_inner.proofs.answer_both.Goals as goal

pub returns-in-Same : goal.returns-in-Same
returns-in-Same c = rw c.in-Same.is c.answer_same.ensures

pub returns-in-Apart : goal.returns-in-Apart
returns-in-Apart c = rw c.in-Apart.is c.answer_apart.ensures
