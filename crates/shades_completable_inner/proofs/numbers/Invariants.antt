-- `shades_completable_inner::numbers` meets its contract. The loop: the numbers of the letters below b are written.
use Rattle.shades_completable_inner.proofs.Testing.{Counting}
use Rattle.shades_completable_inner.proofs.numbers.Given as goal

abbrev pub invariant-loop-b : goal.invariant-loop-b
invariant-loop-b l = Counting l.rem l.num l.b
