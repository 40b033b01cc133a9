-- What the check of the layout promises.
--     FitSays s c r      r tells whether targets of s mm fit on a page in c columns
use Rattle.std.specs.Prelude.{ℕ, Bool, true, false}
use Rattle.sheet_spec.specs.Layout.{FitsPage}

abbrev pub FitSays : ℕ → ℕ → Bool → Type 0
FitSays s c true = FitsPage s c
FitSays s c false = FitsPage s c → ⊥
