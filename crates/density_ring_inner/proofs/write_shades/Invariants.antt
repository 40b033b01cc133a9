-- `density_ring_inner::write_shades` meets its contract. The loop's invariant: the first i shades are written.
use Rattle.words.proofs.Needs.{map}
use Rattle.word_copy_laws.proofs.Written.{Written}
use Rattle.density_spec.specs.Cuts.{shade_of}
use Rattle.density_ring_inner.proofs.write_shades.Given as goal

abbrev pub invariant-loop-i : goal.invariant-loop-i
invariant-loop-i l = Written (map (shade_of l.card l.k) l.values) l.out l.i
