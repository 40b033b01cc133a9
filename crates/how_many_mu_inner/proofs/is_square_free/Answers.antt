-- `how_many_mu_inner::is_square_free` meets its contract. The loop's invariant: no square of a number from 2 on and below d divides m.
use Rattle.words.proofs.Needs.{◌*◌, ◌%◌, arith, eqb, ne_eqb}
use Rattle.how_many_number_laws.proofs.Loops.{trial-start, trial_on, square-no, square-yes, square-fits, square-pos}
use Rattle.how_many_mu_inner.proofs.is_square_free.Goals as goal

pub loop-d-init : goal.loop-d-init
loop-d-init c = trial-start (λ j. eqb (c.args.m % (j * j)) 0)

pub overflow_mul-d : goal.overflow_mul-d
overflow_mul-d c = omega (arith, square-fits c.loop-d.d (omega (arith, c.requires)))

pub nonzero_rem-m : goal.nonzero_rem-m
nonzero_rem-m c = square-pos c.loop-d.d (omega arith)

pub returns-then-m-d-eq0 : goal.returns-then-m-d-eq0
returns-then-m-d-eq0 c = square-no c.args.m c.loop-d.d (omega arith) (omega arith) c.if-m-d-eq0.true

pub loop-d-preserved : goal.loop-d-preserved
loop-d-preserved c =
    trial_on (λ j. eqb (c.args.m % (j * j)) 0) c.loop-d.d c.loop-d.invariant (ne_eqb (c.args.m % (c.loop-d.d * c.loop-d.d)) 0 c.if-m-d-eq0.false)

pub returns : goal.returns
returns c = square-yes c.args.m _ (omega arith) (omega arith) c.loop-d.invariant
