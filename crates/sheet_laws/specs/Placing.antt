-- What `sheets::target` leaves in its buffer, target after target.
--     Placing o i ws t      t is that for the rings ws from target i on, one after another, each told whether it is the last
use Rattle.std.specs.Prelude.{ℕ, suc, List, [], ◌∷◌, ◌++◌, take, Ok}
use Rattle.sheet_spec.specs.declared.Sheet.{Sheet}
use Rattle.sheet_spec.specs.Text.{none}
use Rattle.sheet_spec.specs.Says.{TargetSays}

pub data Placing (o : Sheet) : ℕ → List (List ℕ) → List ℕ → Type 0 where
  all : {i : ℕ} → Placing o i [] []
  then : {i m : ℕ} {w b b' t : List ℕ} {ws : List (List ℕ)} → TargetSays o w i (none ws) b (Ok m) b' → Placing o (suc i) ws t → Placing o i (w ∷ ws) (take m b' ++ t)
