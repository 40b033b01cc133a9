-- `how_many_phi_inner::divides_both` meets its contract.
use Rattle.words.proofs.Needs.{◌∙◌, ne_eqb}
use Rattle.how_many_number_laws.proofs.Loops.{both-no, both_yes}
use Rattle.how_many_phi_inner.proofs.divides_both.Goals as goal

pub returns-then-a-d-eq0 : goal.returns-then-a-d-eq0
returns-then-a-d-eq0 c = both_yes c.args.a c.args.b c.args.d c.if-a-d-eq0.true

pub returns-else-a-d-eq0 : goal.returns-else-a-d-eq0
returns-else-a-d-eq0 c = ne_eqb _ _ c.if-a-d-eq0.false ∙ both-no c.args.a c.args.b c.args.d c.if-a-d-eq0.false
