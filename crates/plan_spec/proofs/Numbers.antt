-- The numbers by which a line is refused.
--     plan-number     the number of a line's refusal is at most 12
use Rattle.words.proofs.Plain.{ℕ, ◌≤◌, arith, List}
use Rattle.refusal.specs.{declared.Refusal.Refusal, Numbers.number_of}
use Rattle.limits_spec.proofs.Given.{given-number}
use Rattle.plan_spec.specs.Plan.{RefusedLine, malformed, spelt}

-- the number of a line's refusal
pub plan-number : (limit : ℕ) (s : List ℕ) (r : Refusal) → RefusedLine limit s r → number_of r ≤ 12
plan-number limit s r (malformed e f) = rw e (omega arith)
plan-number limit s r (spelt k n t g) = given-number limit k n r g
