-- A text placed into a lent buffer, which takes no more than a known room.
--     Fits m b at t r b'      t has at most m characters and stands in the buffer from place `at` on; r is the place behind it
use Rattle.std.specs.Prelude.{ℕ, ◌≤◌, List, length}
use Rattle.text_spec.specs.Put.{Placed}

pub record Fits (m : ℕ) (b : List ℕ) (at : ℕ) (t : List ℕ) (r : ℕ) (b' : List ℕ) : Type 0 where
  pub short : length t ≤ m
  pub placed : Placed b at t r b'
