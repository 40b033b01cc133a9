-- What the parser and the numbers say, the plan says.
--     plan-spelt      the plan of the numbers that a line spells is the line's
use Rattle.words.proofs.Plain.{ℕ, List}
use Rattle.line_spec.specs.Line.{Spells}
use Rattle.std.specs.Prelude.{Result, Ok, Err}
use Rattle.refusal.specs.declared.Refusal.{Refusal}
use Rattle.limits_spec.specs.Limits.{NumbersSay}
use Rattle.plan_spec.specs.Plan.{spelt, PlanSays}

-- the plan of the numbers that a line spells is the line's
pub plan-spelt : (limit : ℕ) (s : List ℕ) (k n : ℕ) (p : Result (ℕ × ℕ) Refusal) → Spells s k n → NumbersSay limit k n p → PlanSays limit s p
plan-spelt limit s k n (Ok (j, m)) t q = rw (q.0, q.1) (t, q.2)
plan-spelt limit s k n (Err r) t q = spelt k n t q
