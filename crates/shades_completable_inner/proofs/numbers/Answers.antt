-- `shades_completable_inner::numbers` meets its contract. The loop: the numbers of the letters below b are written.
use Rattle.words.proofs.Needs.{rules}
use Rattle.words.proofs.Needs.{arith}
use Rattle.shades_completable_inner.proofs.Testing.{count-start, count-more, count-le}
use Rattle.shades_completable_inner.proofs.numbers.Goals as goal

pub loop-b-init : goal.loop-b-init
loop-b-init c = count-start _ _ (search rules)

pub overflow_cast-num : goal.overflow_cast-num
overflow_cast-num c = omega (arith, c.requires.1, count-le c.args.rem.now c.loop-b.b)

pub loop-b-preserved : goal.loop-b-preserved
loop-b-preserved c = count-more _ _ _ c.loop-b.invariant (omega (arith, c.requires.0))

pub returns : goal.returns
returns c = λ b h. c.loop-b.invariant.done b (omega arith)
