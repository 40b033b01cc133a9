-- What the part of the program that makes the bytes promises.
--     OutputOf P b r b'     an output of which P holds, of a buffer b that holds b' afterwards, and that it lies within it
--     InputSays             the output for any input of which that was read to `line`; none, and the buffer as it was, where a read failed
use Rattle.std.specs.Prelude.{ℕ, ◌≤◌, ◌≡◌, List, length, take}
use Rattle.guard_spec.specs.declared.Rule.{Rule}
use Rattle.set_text_spec.specs.Prints.{PrintedBy}
use Rattle.program_reading_inner.specs.declared.Most.{Most}
use Rattle.program_reading_inner.specs.declared.Most.TheVariants as M
use Rattle.program_reading_inner.specs.Says.{BeginsWith}

-- a line has at most 16 bytes, so 17 tell
abbrev pub set_line_bytes : ℕ
set_line_bytes = 17

pub record OutputOf (P : Type 0) (b : List ℕ) (r : ℕ) (b' : List ℕ) : Type 0 where
  pub inside : r ≤ length b
  pub long : length b' ≡ length b
  pub output : P

abbrev pub InputSays : Rule → Most → List ℕ → List ℕ → ℕ → List ℕ → Type 0
InputSays rule M.Full line b r b' = OutputOf ((s : List ℕ) → BeginsWith s line → PrintedBy rule s b r b') b r b'
InputSays rule (M.Ended got) line b r b' = OutputOf (PrintedBy rule (take got line) b r b') b r b'
InputSays rule M.Failed line b r b' = (r ≡ 0) × (b' ≡ b)
