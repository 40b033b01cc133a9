-- What the counts of a walk's record are (02, m).
--     Carries w    they are 16: how often each shade stands in the present ring, and 0 for the shades from k up
use Rattle.std.specs.Prelude.{ℕ, ◌<◌, ◌≤◌, ◌≡◌, length, get_or}
use Rattle.rings.specs.Counts.{occurs}
use Rattle.walk_spec.specs.declared.Walk.{Walk}
use Rattle.walk_spec.specs.Record.{ring_of}

pub record Carries (w : Walk) : Type 0 where
  pub size : length w.counts ≡ 16
  pub each : (b : ℕ) → b < w.k → get_or w.counts b 0 ≡ occurs b (ring_of w)
  pub past : (b : ℕ) → w.k ≤ b → get_or w.counts b 0 ≡ 0
