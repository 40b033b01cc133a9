-- `sheet_print_inner::check_targets` meets its contract: the targets below the place pass.
use Rattle.sheet_print_inner.specs.Says.{AllPass}
use Rattle.sheet_print_inner.proofs.check_targets.Given as goal

abbrev pub invariant-loop-j : goal.invariant-loop-j
invariant-loop-j l = AllPass l.sheet l.places l.count l.j
