-- Only the first 9 bytes of a line tell what it prints.
--     plan-kept       the plan of a line is that of its first 9 bytes (the other way: `plan`, First.plan-first)
--     answer-keep     so what a line prints is what its first 9 bytes print
--     report-tells    and no other byte of it tells
use Rattle.words.proofs.Plain.{ℕ, ◌<◌, arith, dec_lt, List, length, length-take, take_all}
use Rattle.std.specs.Prelude.{Result, Ok, Err}
use Rattle.refusal.specs.declared.Refusal.{Refusal}
use Rattle.line_spec.specs.Line.{Spells}
use Rattle.line_spec.proofs.Lines.{line-short}
use Rattle.plan_spec.specs.Plan.{malformed, spelt, PlanSays}
use Rattle.plan_spec.proofs.First.{plan-first}
use Rattle.how_many_spec.specs.Says.{most_counted}
use Rattle.stream_spec.specs.Texts.{Tells}
use Rattle.report_spec.specs.Lines.{Answers, counted, refused}
use Rattle.report_spec.specs.Blocks.{keep}
use Rattle.report_spec.proofs.Unique.{one-text}

module _ (s : List ℕ) where
  -- a line that spells two numbers is kept whole
  spells-kept : (k n : ℕ) → Spells s k n → Spells (keep s) k n
  spells-kept k n p = rw (take_all 9 s (omega (arith, line-short s k n p))) p

  -- a longer one spells nothing, and nor do its first 9 bytes
  spells-none : 9 < length s → (k n : ℕ) → Spells (keep s) k n → ⊥
  spells-none h k n p = omega (arith, simp length-take at (line-short (keep s) k n p))

  -- the plan of a line is that of its first 9 bytes
  pub plan-kept : (limit : ℕ) (p : Result (ℕ × ℕ) Refusal) → PlanSays limit s p → PlanSays limit (keep s) p
  plan-kept limit (Ok (k, n)) q = (spells-kept k n q.0, q.1)
  plan-kept limit (Err r) (malformed e f) =
      elim (dec_lt 9 (length s)) [
        | yes h ↦ malformed e (spells-none h)
        | no h ↦ malformed e (rw (take_all 9 s (omega arith)) f)
      ]
  plan-kept limit (Err r) (spelt k n t g) = spelt k n (spells-kept k n t) g

  -- what the first 9 bytes print, the line prints
  pub answer-keep : (t : List ℕ) → Answers (keep s) t → Answers s t
  answer-keep t (counted k n p e) = counted k n (plan-first 9 s (omega arith) most_counted (Ok (k, n)) p) e
  answer-keep t (refused r p e) = refused r (plan-first 9 s (omega arith) most_counted (Err r) p) e

  -- what the line prints, its first 9 bytes print
  keep-answer : (t : List ℕ) → Answers s t → Answers (keep s) t
  keep-answer t (counted k n p e) = counted k n (plan-kept most_counted (Ok (k, n)) p) e
  keep-answer t (refused r p e) = refused r (plan-kept most_counted (Err r) p) e

-- a line prints one text, and its first 9 bytes tell which
pub report-tells : Tells Answers 9
report-tells = record { some = omega arith; one = one-text; first = answer-keep; kept = keep-answer }
