-- What the outcome of a step reports (01, 'Walks'): Moved and Done report their moves, a refusal reports none.
--     ReportsUpTo m o    the outcome reports at most m moves, or is a refusal
--     ReportsMoves m o        it reports m moves, and is no refusal
use Rattle.std.specs.Prelude.{ℕ, ◌≤◌, ◌≡◌, Result, Ok, Err}
use Rattle.refusal.specs.declared.Refusal.{Refusal}
use Rattle.walk_spec.specs.declared.Outcome.{Outcome}
use Rattle.walk_spec.specs.declared.Outcome.TheVariants.{Moved, Done}

-- at most m moves
abbrev pub ReportsUpTo : ℕ → Result Outcome Refusal → Type 0
ReportsUpTo m (Ok (Moved x)) = x ≤ m
ReportsUpTo m (Ok (Done x)) = x ≤ m
ReportsUpTo m (Err r) = Unit {0}

-- exactly m moves
abbrev pub ReportsMoves : ℕ → Result Outcome Refusal → Type 0
ReportsMoves m (Ok (Moved x)) = x ≡ m
ReportsMoves m (Ok (Done x)) = x ≡ m
ReportsMoves m (Err r) = ⊥
