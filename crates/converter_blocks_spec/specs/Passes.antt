-- The two passes over an old catalogue c, block after block: each block begins at a place p of c, with what stands there, and ends anywhere.
--     moved p r           the refusal r, its place counted from p bytes before
--     block_of c p m       the block of c that begins at p and has m bytes, or fewer where c ends
--     ChecksBlocks c p v  the first pass, from p on: v is its verdict
--     Writes c p u        the second pass, from p on: u is what it writes
-- That the first tells what converting the whole answers, and the second writes what it writes, however c is cut: proofs/Through.
use Rattle.std.specs.Prelude.{ℕ, ◌+◌, ◌≤◌, Bool, true, false, List, ◌++◌, length, take, drop, Result, Ok, Err}
use Rattle.refusal.specs.declared.Refusal.{Refusal}
use Rattle.refusal.specs.declared.Refusal.TheVariants as R
use Rattle.converter_blocks_spec.specs.Blocks.{StretchSays, TurnSays}

abbrev pub moved : ℕ → Refusal → Refusal
moved p (R.Length q) = R.Length (p + q)
moved p (R.Shades q) = R.Shades (p + q)
moved p (R.Sector q) = R.Sector (p + q)
moved p R.Room = R.Room
moved p (R.OffWalk q) = R.OffWalk (p + q)
moved p R.Counts = R.Counts
moved p (R.Cut q) = R.Cut (p + q)
moved p (R.Mark q) = R.Mark (p + q)
moved p (R.NotHome q) = R.NotHome (p + q)
moved p R.Pair = R.Pair
moved p R.Line = R.Line
moved p R.TooMany = R.TooMany
moved p R.Set = R.Set
moved p R.Card = R.Card
moved p (R.Unreadable q) = R.Unreadable (p + q)
moved p (R.Retired q) = R.Retired (p + q)
moved p (R.Padding q) = R.Padding (p + q)

abbrev pub block_of : List ℕ → ℕ → ℕ → List ℕ
block_of c p m = take m (drop p c)

-- a block may be called the last only where the catalogue ends with it
abbrev pub Reaches : List ℕ → ℕ → ℕ → Bool → Type 0
Reaches c p m true = length c ≤ p + m
Reaches c p m false = Unit

pub data ChecksBlocks (c : List ℕ) : ℕ → Result Unit Refusal → Type 0 where
  further : {p : ℕ} {v : Result Unit Refusal} (m e : ℕ) → StretchSays (block_of c p m) false (Ok e) → ChecksBlocks c (p + e) v → ChecksBlocks c p v
  good : {p : ℕ} (m e : ℕ) → Reaches c p m true → StretchSays (block_of c p m) true (Ok e) → ChecksBlocks c p (Ok tt)
  bad : {p : ℕ} (m : ℕ) (last : Bool) (r : Refusal) → Reaches c p m last → StretchSays (block_of c p m) last (Err r) → ChecksBlocks c p (Err (moved p r))

-- what stands of each block's whole records in its output
pub data Writes (c : List ℕ) : ℕ → List ℕ → Type 0 where
  part : {p : ℕ} {u : List ℕ} (m e : ℕ) (o d : List ℕ) → TurnSays (block_of c p m) false o (Ok e) d → Writes c (p + e) u → Writes c p (take e d ++ u)
  rest : {p : ℕ} (m e : ℕ) (o d : List ℕ) → Reaches c p m true → TurnSays (block_of c p m) true o (Ok e) d → Writes c p (take e d)
