-- Repeating a beginning. How far a reading is a prenecklace, and the lyn of that beginning: `classify_inner`, specs/Beginning.
--     Repeatable s p    the first p sectors are a Lyndon word
--     Repeats p s t     t repeats the first p sectors of s
use Rattle.std.specs.Prelude.{ℕ, ◌<◌, ◌≤◌, ◌≡◌, List, length}
use Rattle.words.specs.Sequence.{sec}
use Rattle.ring_laws.specs.Run.{Lyn, Run}

-- the first p sectors are a Lyndon word
pub record Repeatable (s : List ℕ) (p : ℕ) : Type 0 where
  pub pos : 0 < p
  pub fits : p ≤ length s
  pub lyn : Lyn (sec s) p

-- t has the first p sectors of s, over and over
pub record Repeats (p : ℕ) (s t : List ℕ) : Type 0 where
  pub long : length t ≡ length s
  pub keeps : (m : ℕ) → m < p → sec t m ≡ sec s m
  pub run : Run (sec t) (length t) p
