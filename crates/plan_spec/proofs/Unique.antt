-- No line has two plans, for any limit, and so for the listing program's.
--     one-plan              a line has at most one plan
-- That its numbers have one: `limits`, proofs/Unique.
use Rattle.words.proofs.Plain.{ℕ, ◌≡◌, refl, sym, ap, ◌∙◌, List}
use Rattle.refusal.specs.declared.Refusal.TheVariants.{Line}
use Rattle.line_spec.specs.Line.{Spells}
use Rattle.line_spec.proofs.Lines.{one_line}
use Rattle.std.specs.Prelude.{Result, Ok, Err}
use Rattle.refusal.specs.declared.Refusal.{Refusal}
use Rattle.limits_spec.specs.Limits.{NumbersSay}
use Rattle.limits_spec.proofs.Unique.{one-numbers}
use Rattle.plan_spec.specs.Plan.{malformed, spelt, PlanSays}

-- a plan is that of a malformed line, or that of the numbers that the line spells
data Plans (limit : ℕ) (s : List ℕ) (p : Result (ℕ × ℕ) Refusal) : Type 0 where
  none : p ≡ Err Line → ((k n : ℕ) → Spells s k n → ⊥) → Plans limit s p
  made : (k n : ℕ) → Spells s k n → NumbersSay limit k n p → Plans limit s p

plans : (limit : ℕ) (s : List ℕ) (p : Result (ℕ × ℕ) Refusal) → PlanSays limit s p → Plans limit s p
plans limit s (Ok (k, n)) q = made k n q.0 (refl, refl, q.1)
plans limit s (Err r) (malformed e f) = none (ap Err e) f
plans limit s (Err r) (spelt k n t g) = made k n t g

-- no line has two plans
pub one-plan : (limit : ℕ) (s : List ℕ) (p q : Result (ℕ × ℕ) Refusal) → PlanSays limit s p → PlanSays limit s q → p ≡ q
one-plan limit s p q a b = go (plans limit s p a) (plans limit s q b)
  where
    go : Plans limit s p → Plans limit s q → p ≡ q
    go (none e x) (none f y) = e ∙ sym f
    go (none e x) (made k n t f) = absurd (x k n t)
    go (made k n t e) (none f y) = absurd (y k n t)
    go (made k n t e) (made j m u f) = let g = one_line s k n j m t u in one-numbers limit j m p q (rw (g.0, g.1) at e) f
