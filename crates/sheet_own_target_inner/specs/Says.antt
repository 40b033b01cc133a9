-- What the functions promise.
--     LineStep o s t i b m e b'    what placing the target of line i promises, of t: m bytes of the buffer are its text, and the next line begins at e
use Rattle.std.specs.Prelude.{ℕ, ◌+◌, List, [], eqb, get_or, Ok}
use Rattle.stream_spec.specs.Lines.{lines}
use Rattle.sheet_spec.specs.declared.Sheet.{Sheet}
use Rattle.sheet_spec.specs.Says.{TargetSays}
use Rattle.sheet_print_spec.specs.Prints.{ring_in}
use Rattle.sheet_lines_inner.specs.Says.{LineReached}

pub record LineStep (o : Sheet) (s : List ℕ) (t i : ℕ) (b : List ℕ) (m e : ℕ) (b' : List ℕ) : Type 0 where
  pub target : TargetSays o (ring_in (get_or (lines s) i [])) i (eqb (i + 1) t) b (Ok m) b'
  pub next : LineReached s e (i + 1)
