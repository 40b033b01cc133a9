-- What `lay` leaves of an output. It serves the code alone: the calls' own contracts are `strip`, specs/Says.
use Rattle.std.specs.Prelude.{ℕ, ◌+◌, ◌<◌, ◌≡◌, List, length, get_or}

-- the first p sectors of the ring stand from place `at` on, and what stood before that place stands there still
pub record LaidDown (ring : List ℕ) (p : ℕ) (out : List ℕ) (at : ℕ) (left : List ℕ) : Type 0 where
  pub long : length left ≡ length out
  pub piece : (i : ℕ) → i < p → get_or left (at + i) 0 ≡ get_or ring i 0
  pub kept : (i : ℕ) → i < at → get_or left i 0 ≡ get_or out i 0
