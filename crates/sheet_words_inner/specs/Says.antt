-- What the functions promise.
--     EndsAs a o r        the sheet that the words ask for where they end there, or that they may not
--     ReadsAs t r         r tells what the line t asks for: the sheet, or that it asks for none
use Rattle.std.specs.Prelude.{ℕ, List, Option, Some, None}
use Rattle.text_spec.specs.Ascii.{space}
use Rattle.text_words_spec.specs.Words.{pieces}
use Rattle.sheet_spec.specs.declared.Sheet.{Sheet}
use Rattle.sheet_words_spec.specs.declared.Awaits.{Awaits}
use Rattle.sheet_words_spec.specs.Words.{EndsWith, SheetAsked}

abbrev pub EndsAs : Awaits → Sheet → Option Sheet → Type 0
EndsAs a o (Some q) = EndsWith a o q
EndsAs a o None = (p : Sheet) → EndsWith a o p → ⊥

abbrev pub ReadsAs : List ℕ → Option Sheet → Type 0
ReadsAs t (Some o) = SheetAsked (pieces space t) o
ReadsAs t None = (q : Sheet) → SheetAsked (pieces space t) q → ⊥
