-- `set_far_inner::is_far` meets its contract: what the counts tell, or else the library.
use Rattle.words.proofs.Needs.{◌∙◌}
use Rattle.words.proofs.Plain.{le-leb}
use Rattle.home.proofs.Answers.{passed-pair}
use Rattle.set_far_inner.proofs.Far.{counts-sixteen, far-counts, far-told}
use Rattle.set_far_inner.proofs.is_far.Goals as goal

pub surplus_of-requires : goal.surplus_of-requires
surplus_of-requires c =
    (counts-sixteen c.args.a.now c.args.ca.now c.requires.ca_value, counts-sixteen c.args.b.now c.args.cb.now c.requires.cb_value)

pub returns-then-d-surplus_of : goal.returns-then-d-surplus_of
returns-then-d-surplus_of c =
    le-leb _ _ c.if-d-surplus_of.true ∙
    far-counts c.args.d c.args.a.now c.args.b.now c.args.ca.now c.args.cb.now (passed-pair c.args.a.now c.args.b.now c.args.k c.requires.passed) c.requires.ca_value c.requires.cb_value
    c.surplus_of.result c.surplus_of.ensures c.if-d-surplus_of.true

pub returns-else-d-surplus_of : goal.returns-else-d-surplus_of
returns-else-d-surplus_of c =
    rw c.unwrap_or.ensures (far-told c.args.d c.args.k c.args.a.now c.args.b.now c.nearer.result c.requires.passed c.nearer.ensures)
