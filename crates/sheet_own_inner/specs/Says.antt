-- What the functions promise.
--     LinesPass o ls m        the first m of the lines ls pass their checks
--     WrongLine o ls r j      the line number j, counted from 1, is refused with r, and none before it is
--     LinesSay o ls v         what checking all lines promises: they are so many, and all pass; or the first that is refused
use Rattle.std.specs.Prelude.{ℕ, ◌+◌, ◌<◌, ◌≡◌, List, length, Result, Ok, Err}
use Rattle.refusal.specs.declared.Refusal.{Refusal}
use Rattle.refusal.specs.Order.{Passed, Given}
use Rattle.sheet_spec.specs.declared.Sheet.{Sheet}
use Rattle.sheet_print_spec.specs.Prints.{own_order}
use Rattle.sheet_own_inner.specs.declared.RefusedLine.{RefusedLine}

abbrev pub LinesPass : Sheet → List (List ℕ) → ℕ → Type 0
LinesPass o ls m = (i : ℕ) → i < m → Passed (own_order o ls i)

pub record WrongLine (o : Sheet) (ls : List (List ℕ)) (r : Refusal) (j : ℕ) : Type 0 where
  pub place : ℕ
  pub number : j ≡ place + 1
  pub within : place < length ls
  pub before : LinesPass o ls place
  pub given : Given (own_order o ls place) r

abbrev pub LinesSay : Sheet → List (List ℕ) → Result ℕ RefusedLine → Type 0
LinesSay o ls (Ok t) = (t ≡ length ls) × LinesPass o ls t
LinesSay o ls (Err x) = WrongLine o ls x.refusal x.line
