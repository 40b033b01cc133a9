-- The guarded choice: through the Lyndon words in order, taking each with which the set stays guarded, until there are enough or none is left.
--     joins d taken w               w may join the rings taken: it is at least d apart from each, its mirror image is so from each and from w itself, and w is steady
--     guarded n k d want            the set
--     guarded_looked n k d want      the Lyndon words that were looked at for it
--     may_join rule d                the test of a rule: that of 02, 'g', or `joins`
--     chosen_by rule n k d want      the set of a rule: `picked` or `guarded`
-- That a set by this choice is guarded, and what it is worth: Worth, and `guard_laws`.
use Rattle.std.specs.Prelude.{ℕ, Bool, ◌&&◌, List, [], ◌∷◌, ◌++◌}
use Rattle.rings.specs.Alike.{mirrored}
use Rattle.home_spec.specs.Turns.{steady}
use Rattle.set_spec.specs.Greedy.{May, greedy_by, looked_by, clear, lyndons, picked}
use Rattle.guard_spec.specs.declared.Rule.{Rule}
use Rattle.guard_spec.specs.declared.Rule.TheVariants.{Plain, Guarded}

-- w may join the rings taken
unfoldable pub joins : ℕ → List (List ℕ) → List ℕ → Bool
joins d taken w = clear d taken w && (clear d (taken ++ (w ∷ [])) (mirrored w) && steady d w)

-- the set
unfoldable pub guarded : ℕ → ℕ → ℕ → ℕ → List (List ℕ)
guarded n k d want = greedy_by (joins d) want [] (lyndons n k)

-- the Lyndon words that were looked at for it
unfoldable pub guarded_looked : ℕ → ℕ → ℕ → ℕ → List (List ℕ)
guarded_looked n k d want = looked_by (joins d) want [] (lyndons n k)

-- the test of a rule
abbrev pub may_join : Rule → ℕ → May
may_join Plain d = clear d
may_join Guarded d = joins d

-- the set of a rule
abbrev pub chosen_by : Rule → ℕ → ℕ → ℕ → ℕ → List (List ℕ)
chosen_by Plain n k d want = picked n k d want
chosen_by Guarded n k d want = guarded n k d want
