-- The tests of a guarded set beside that of the fronts.
--     guard_in n d p t w       the mirror image of w is at least d apart from the readings in the first t places, and from w, and w is steady
use Rattle.std.specs.Prelude.{ℕ, Bool, ◌&&◌, List}
use Rattle.rings.specs.Alike.{mirrored}
use Rattle.home_spec.specs.Turns.{steady}
use Rattle.set_spec.specs.Greedy.{far_from}
use Rattle.set_clear_inner.specs.Says.{clear_in}

abbrev pub guard_in : ℕ → ℕ → List ℕ → ℕ → List ℕ → Bool
guard_in n d p t w = (clear_in n d p t (mirrored w) && far_from d w (mirrored w)) && steady d w
