-- What the parts of the program promise.
--     SheetReady s o r      the sheet o of the rings r is ready: the set in the places, or the lines of the input s from a place on
--     AnswerReady s r       where a sheet is printed, it is ready
use Rattle.std.specs.Prelude.{ℕ, ◌≤◌, List, length, Result, Ok, Err}
use Rattle.sheet_spec.specs.declared.Sheet.{Sheet}
use Rattle.sheet_print_inner.specs.{declared.Rings.Rings, declared.Job.Job, declared.Stop.Stop}
use Rattle.sheet_print_inner.specs.declared.Rings.TheVariants.{Set, Own}
use Rattle.sheet_print_inner.specs.Says.{ReadySet, ReadyOwn, lines_at}

abbrev pub SheetReady : List ℕ → Sheet → Rings → Type 0
SheetReady s o (Set p t) = ReadySet o p t
SheetReady s o (Own f t) = (f ≤ length s) × ReadyOwn o (lines_at s f) t

abbrev pub AnswerReady : List ℕ → Result Job Stop → Type 0
AnswerReady s (Ok j) = SheetReady s j.sheet j.rings
AnswerReady s (Err x) = Unit
