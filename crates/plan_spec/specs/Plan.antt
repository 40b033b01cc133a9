-- What a line asks for (01, 'The listing program' and 'Refusal numbers': first 11, then the numbers' own, 1, 2 and 12: `limits`). `limit` is the greatest power
-- that is not Too many.
--     RefusedLine limit s r     the line s is refused with r: 11, and then its numbers
--     PlanSays limit s p        what the plan p of the line s promises
-- That no line has two plans: proofs/Unique; that its first 9 characters decide it: proofs/First.
use Rattle.std.specs.Prelude.{ℕ, ◌≡◌, List, Result, Ok, Err}
use Rattle.refusal.specs.declared.Refusal.{Refusal}
use Rattle.refusal.specs.declared.Refusal.TheVariants.{Line}
use Rattle.line_spec.specs.Line.{Spells}
use Rattle.refusal.specs.Order.{Given}
use Rattle.limits_spec.specs.Limits.{Listable, numbers_order}

-- the order 11, 1, 2, 12
pub data RefusedLine (limit : ℕ) (s : List ℕ) (r : Refusal) : Type 0 where
  malformed : r ≡ Line → ((k n : ℕ) → Spells s k n → ⊥) → RefusedLine limit s r
  spelt : (k n : ℕ) → Spells s k n → Given (numbers_order limit k n) r → RefusedLine limit s r

abbrev pub PlanSays : ℕ → List ℕ → Result (ℕ × ℕ) Refusal → Type 0
PlanSays limit s (Ok (k, n)) = Spells s k n × Listable limit k n
PlanSays limit s (Err r) = RefusedLine limit s r
