-- A line's first characters decide its plan: a line has at most 8, so of a longer input 9 characters tell that it is malformed.
--     spells-first      what spells two numbers is all there, if there is room for 9
--     plan-first        the plan of the first m characters of s, m at least 9, is the plan of s
use Rattle.words.proofs.Plain.{ℕ, ◌<◌, ◌≤◌, arith, dec_lt, List, length, take, length-take, take_all}
use Rattle.line_spec.specs.Line.{Spells}
use Rattle.line_spec.proofs.Lines.{line-short}
use Rattle.std.specs.Prelude.{Result, Ok, Err}
use Rattle.refusal.specs.declared.Refusal.{Refusal}
use Rattle.plan_spec.specs.Plan.{malformed, spelt, PlanSays}

module _ (m : ℕ) (s : List ℕ) (room : 9 ≤ m) where
  -- what spells two numbers is all there
  pub spells-first : (k n : ℕ) → Spells (take m s) k n → Spells s k n
  spells-first k n p = rw (take_all m s (omega (arith, simp length-take at (line-short (take m s) k n p)))) at p

  -- a longer line spells nothing
  spells-none : m < length s → (k n : ℕ) → Spells s k n → ⊥
  spells-none h k n p = omega (arith, line-short s k n p)

  -- the plan of the first m characters is the plan of all
  pub plan-first : (limit : ℕ) (p : Result (ℕ × ℕ) Refusal) → PlanSays limit (take m s) p → PlanSays limit s p
  plan-first limit (Ok (k, n)) q = (spells-first k n q.0, q.1)
  plan-first limit (Err r) (malformed e f) =
      elim (dec_lt m (length s)) [
        | yes h ↦ malformed e (spells-none h)
        | no h ↦ malformed e (rw (take_all m s (omega arith)) at f)
      ]
  plan-first limit (Err r) (spelt k n t g) = spelt k n (spells-first k n t) g
