-- What is placed, one target after another; `ring` gives the reading of each target.
--     own_rings ls                 the rings of the lines ls
--     SheetSteps o ring t i text  text is what the steps from target i on place, one after another
use Rattle.std.specs.Prelude.{ℕ, suc, ◌<◌, List, [], ◌++◌, get_or, take}
use Rattle.sheet_spec.specs.declared.Sheet.{Sheet}
use Rattle.sheet_print_spec.specs.Prints.{ring_in}
use Rattle.sheet_places_inner.specs.Says.{TargetAt}

abbrev pub own_rings : List (List ℕ) → ℕ → List ℕ
own_rings ls i = ring_in (get_or ls i [])

pub data SheetSteps (o : Sheet) (ring : ℕ → List ℕ) (t : ℕ) : ℕ → List ℕ → Type 0 where
  over : SheetSteps o ring t t []
  step : {i m : ℕ} {b b' text : List ℕ} → i < t → TargetAt o ring t i b m b' → SheetSteps o ring t (suc i) text → SheetSteps o ring t i (take m b' ++ text)
