-- `how_many_mu_inner::is_prime` meets its contract. The loop's invariant: no number from 2 on and below d divides p.
use Rattle.words.proofs.Needs.{◌%◌, arith, eqb, ne_eqb}
use Rattle.how_many_number_laws.proofs.Loops.{trial-start, trial_on, prime-small, prime-no, prime-yes}
use Rattle.how_many_mu_inner.proofs.is_prime.Goals as goal

pub returns-then-p-lt2 : goal.returns-then-p-lt2
returns-then-p-lt2 c = prime-small c.args.p c.if-p-lt2.true

pub loop-d-init : goal.loop-d-init
loop-d-init c = trial-start (λ j. eqb (c.args.p % j) 0)

pub returns-then-p-d-eq0 : goal.returns-then-p-d-eq0
returns-then-p-d-eq0 c = prime-no c.args.p c.loop-d.d (omega arith) (omega arith) c.if-p-d-eq0.true

pub loop-d-preserved : goal.loop-d-preserved
loop-d-preserved c =
    trial_on (λ j. eqb (c.args.p % j) 0) c.loop-d.d c.loop-d.invariant (ne_eqb (c.args.p % c.loop-d.d) 0 c.if-p-d-eq0.false)

pub returns : goal.returns
returns c = prime-yes c.args.p _ c.if-p-lt2.false (omega arith) (omega arith) c.loop-d.invariant
