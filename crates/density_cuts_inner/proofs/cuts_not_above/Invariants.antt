-- `density_cuts_inner::cuts_not_above` meets its contract. The loop's invariant: of the cuts before cut j, so many are not above x.
use Rattle.words.proofs.Needs.{◌-◌, ◌<◌, ◌≡◌}
use Rattle.density_spec.specs.Cuts.{cuts_up_to}
use Rattle.density_cuts_inner.proofs.cuts_not_above.Given as goal

abbrev pub invariant-loop-j : goal.invariant-loop-j
invariant-loop-j l = (l.shade < l.j) × (l.shade ≡ cuts_up_to l.card l.k l.x (l.j - 1))
