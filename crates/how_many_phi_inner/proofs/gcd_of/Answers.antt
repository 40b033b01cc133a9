-- `how_many_phi_inner::gcd_of` meets its contract. The loop's invariant: the greatest common divisor is not above g.
use Rattle.words.proofs.Needs.{arith, sym, ◌∙◌}
use Rattle.how_many_number_laws.proofs.Loops.{gcd-start, gcd-found, gcd-on, gcd-end}
use Rattle.how_many_phi_inner.proofs.gcd_of.Goals as goal

pub loop-g-init : goal.loop-g-init
loop-g-init c = gcd-start c.args.a c.args.b

pub returns-then-divides_both : goal.returns-then-divides_both
returns-then-divides_both c =
    gcd-found c.args.a c.args.b c.loop-g.g c.loop-g.invariant (omega arith)
    (sym c.if-divides_both.true ∙ c.divides_both.ensures)

pub loop-g-preserved : goal.loop-g-preserved
loop-g-preserved c =
    gcd-on c.args.a c.args.b c.loop-g.g c.loop-g.invariant (omega arith)
    (sym c.if-divides_both.false ∙ c.divides_both.ensures)

pub returns : goal.returns
returns c = gcd-end c.args.a c.args.b _ c.loop-g.invariant (omega arith)
