-- What the functions promise.
--     LineAt s at r           the line that begins at the place `at` of s ends at r, and the next begins behind that
--     LineReached s at i      the first i lines of s end before the place `at`, where the next begins
use Rattle.std.specs.Prelude.{ℕ, ◌+◌, ◌-◌, ◌≤◌, ◌≡◌, List, ◌∷◌, length, take, drop}
use Rattle.stream_spec.specs.Lines.{lines}

pub record LineAt (s : List ℕ) (at r : ℕ) : Type 0 where
  pub from : at ≤ r
  pub within : r ≤ length s
  pub first : lines (drop at s) ≡ take (r - at) (drop at s) ∷ lines (drop (r + 1) s)

pub record LineReached (s : List ℕ) (at i : ℕ) : Type 0 where
  pub ahead : drop i (lines s) ≡ lines (drop at s)
  pub few : i ≤ at
  pub most : i ≤ length (lines s)
  pub near : at ≤ length s + 1
