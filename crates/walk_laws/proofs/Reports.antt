-- What the outcome of a step reports (specs/ReportsMoves): Moved and Done one number each, a refusal none.
--     reports-one         an outcome reports no two numbers
--     reports-within      where it reports at most m, the number that it reports is at most m, of Moved and of Done alike
--     refused_none        a refusal reports no number
--     accepted-reports    at a record that passes its checks a step of any kind reports a number, whatever answer the contract admits
use Rattle.std.specs.Prelude.{Result, Ok, Err}
use Rattle.words.proofs.Plain.{ℕ, ◌≤◌, arith, ◌≡◌, refl, Bool, List}
use Rattle.refusal.specs.{declared.Refusal.Refusal, Order.Passed}
use Rattle.refusal.proofs.Unique.{never_both}
use Rattle.walk_spec.specs.{declared.Walk.Walk, declared.Outcome.Outcome, Record.walk_asked, Says.StepSays}
use Rattle.walk_spec.specs.declared.Outcome.TheVariants.{Moved, Done}
use Rattle.walk_laws.specs.Reports.{ReportsUpTo, ReportsMoves}

-- no two numbers
pub reports-one : (m x : ℕ) (o : Result Outcome Refusal) → ReportsMoves m o → ReportsMoves x o → m ≡ x
reports-one m x (Ok (Moved y)) p q = omega (arith, p, q)
reports-one m x (Ok (Done y)) p q = omega (arith, p, q)
reports-one m x (Err r) p q = absurd p

-- at most m is at most m, of Moved and of Done alike
pub reports-within : (m x : ℕ) (o : Result Outcome Refusal) → ReportsUpTo m o → ReportsMoves x o → x ≤ m
reports-within m x (Ok (Moved y)) p q = omega (arith, p, q)
reports-within m x (Ok (Done y)) p q = omega (arith, p, q)
reports-within m x (Err r) p q = absurd q

-- a refusal reports none
pub refused_none : (m : ℕ) (r : Refusal) → ReportsMoves m (Err r) → ⊥
refused_none m r p = p

-- a record that passes its checks is not refused, so a number is reported
pub accepted-reports : (kind : List ℕ → Bool) (w v : Walk) (o : Result Outcome Refusal) → Passed (walk_asked w) → StepSays kind w v o → (m : ℕ) × ReportsMoves m o
accepted-reports kind w v (Ok (Moved m)) good says = (m, refl)
accepted-reports kind w v (Ok (Done m)) good says = (m, refl)
accepted-reports kind w v (Err r) good says = absurd (never_both (walk_asked w) r says.0 good)
