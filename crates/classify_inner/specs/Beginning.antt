-- What the scan of a reading finds: how far it is a prenecklace, and the lyn of that beginning. It serves the code alone.
use Rattle.std.specs.Prelude.{ℕ, ◌-◌, ◌<◌, ◌≤◌, List, length}
use Rattle.words.specs.Sequence.{sec}
use Rattle.ring_laws.specs.Run.{Run}
use Rattle.classify_inner.specs.declared.Begun.{Begun}

-- the first `end` sectors are a prenecklace with this lyn, and with the next one they are none
pub record LongestPrenecklace (s : List ℕ) (r : Begun) : Type 0 where
  pub run : Run (sec s) r.end r.lyn
  pub within : r.end ≤ length s
  pub breaks : r.end < length s → sec s r.end < sec s (r.end - r.lyn)
