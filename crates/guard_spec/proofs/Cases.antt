-- Guarded sets worked out by hand, and computed from the definitions.
use Rattle.words.proofs.Plain.{◌≡◌, refl, [], ◌∷◌}
use Rattle.rings.specs.Open.{open-all}
use Rattle.home_spec.specs.Turns.{turn_far, steady}
use Rattle.set_spec.specs.Greedy.{greedy_by, looked_by, far_from, clear, kept, lyndons}
use Rattle.guard_spec.specs.Sides.{sides}
use Rattle.guard_spec.specs.Choice.{joins, guarded, guarded_looked}

-- from behind 012 is 021: of the two rings of three shades one is taken, and no even-handed one, as 001
three-shades : guarded 3 3 1 4 ≡ (0 ∷ 1 ∷ 2 ∷ []) ∷ []
unfolding turn_far steady far_from clear greedy_by kept lyndons joins guarded open-all
three-shades = refl

-- 0012 is 2 apart from its other side 0021; 0112 is only 1 apart from it, and 0021, 0211 and 0221 are seen from behind where 0012, 0112 and 0122 are
two-apart : guarded 4 3 2 4 ≡ (0 ∷ 0 ∷ 1 ∷ 2 ∷ []) ∷ []
unfolding turn_far steady far_from clear greedy_by kept lyndons joins guarded open-all
two-apart = refl

-- at distance 1 these three are taken; two are wanted, and those up to the second are looked at
one_apart : (guarded 4 3 1 9 ≡ (0 ∷ 0 ∷ 1 ∷ 2 ∷ []) ∷ (0 ∷ 1 ∷ 1 ∷ 2 ∷ []) ∷ (0 ∷ 1 ∷ 2 ∷ 2 ∷ []) ∷ [])
    × (guarded 4 3 1 2 ≡ (0 ∷ 0 ∷ 1 ∷ 2 ∷ []) ∷ (0 ∷ 1 ∷ 1 ∷ 2 ∷ []) ∷ [])
    × (guarded_looked 4 3 1 1 ≡ (0 ∷ 0 ∷ 0 ∷ 1 ∷ []) ∷ (0 ∷ 0 ∷ 0 ∷ 2 ∷ []) ∷ (0 ∷ 0 ∷ 1 ∷ 1 ∷ []) ∷ (0 ∷ 0 ∷ 1 ∷ 2 ∷ []) ∷ [])
unfolding turn_far steady far_from clear greedy_by looked_by kept lyndons joins guarded guarded_looked open-all
one_apart = (refl, refl, refl)

-- the stock target 001011 and its other side
both-sides : sides ((0 ∷ 0 ∷ 1 ∷ 0 ∷ 1 ∷ 1 ∷ []) ∷ []) ≡ (0 ∷ 0 ∷ 1 ∷ 0 ∷ 1 ∷ 1 ∷ []) ∷ (0 ∷ 0 ∷ 1 ∷ 1 ∷ 0 ∷ 1 ∷ []) ∷ []
unfolding sides open-all
both-sides = refl

-- 001122 is 4 apart from its other side 002211, but turned by one sector it differs from itself at 3 places only, and no other ring is 4 apart from its own other side
unsteady : guarded 6 3 4 1 ≡ []
unfolding turn_far steady far_from clear greedy_by kept lyndons joins guarded open-all
unsteady = refl
