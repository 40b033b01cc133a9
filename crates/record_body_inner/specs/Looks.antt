-- What looking at sectors w of k shades promises, by cases on the answer; it serves the code alone.
--     LookSays w k r    the answer r
use Rattle.std.specs.Prelude.{ℕ, ◌≡◌, true, false, List}
use Rattle.rings.specs.Necklace.{necklace}
use Rattle.rings.specs.Class.{look_at}
use Rattle.refusal.specs.Calls.{Below, FirstBad}
use Rattle.record_body_inner.specs.declared.Looked.{Looked}
use Rattle.record_body_inner.specs.declared.Looked.TheVariants.{Home, NoShade, NotHome}

abbrev pub LookSays : List ℕ → ℕ → Looked → Type 0
LookSays w k Home = Below w (λ j. k) × (necklace w ≡ true)
LookSays w k (NoShade i) = FirstBad w (λ j. k) i
LookSays w k (NotHome i) = (i ≡ look_at w) × Below w (λ j. k) × (necklace w ≡ false)
