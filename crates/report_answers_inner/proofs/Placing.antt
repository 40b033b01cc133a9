-- The text of a line, by its plan.
--     length-counts                  how long the line of two numbers is
--     refusal-fits, accepted-few     a refusal's line has room, and numbers that are accepted may be counted
--     answer-refused, answer-counted    what is placed is what the line prints
use Rattle.words.proofs.Plain.{ℕ, ◌+◌, ◌≤◌, arith, ◌≡◌, refl, List, length, length-append}
use Rattle.rings.specs.{Necklace.necklace, Necklace.lyndon, Steps.how_many}
use Rattle.refusal.specs.{declared.Refusal.Refusal, Numbers.number_of}
use Rattle.text_spec.specs.{Decimal.decimal, Text.refused_line, Put.Placed}
use Rattle.std.specs.Prelude.{Result, Ok, Err}
use Rattle.limits_spec.specs.Limits.{Listable}
use Rattle.limits_spec.proofs.Given.{listable-within}
use Rattle.plan_spec.specs.Plan.{PlanSays}
use Rattle.plan_spec.proofs.Numbers.{plan-number}
use Rattle.how_many_spec.specs.Says.{most_counted}
use Rattle.stream_spec.specs.Blocks.{Puts}
use Rattle.report_spec.specs.Lines.{counts_line, Answers, counted, refused}
use Rattle.report_spec.specs.Blocks.{line_room}
use Rattle.report_laws.proofs.Room.{refused-short, counts-short, answer-short}

-- two numbers, a space and a newline
pub length-counts : (x y : ℕ) → length (counts_line x y) ≡ length (decimal x) + length (decimal y) + 2
unfolding counts_line
length-counts x y = simp length-append (omega arith)

-- by a plan with whatever limit
module _ (limit : ℕ) (s : List ℕ) (p : Result (ℕ × ℕ) Refusal) (says : PlanSays limit s p) where
  -- a refusal's line has room
  pub refusal-fits : (r : Refusal) → p ≡ Err r → (at room : ℕ) → at + line_room ≤ room → at + length (refused_line (number_of r)) ≤ room
  refusal-fits r e at room h = omega (arith, refused-short (number_of r) (plan-number limit s r (rw e at says)))

  -- numbers that are accepted may be counted, where the limit is no higher than the report's
  pub accepted-few : (k n : ℕ) → p ≡ Ok (k, n) → limit ≤ most_counted → Listable most_counted k n
  accepted-few k n e h = let q : PlanSays limit s (Ok (k, n)) = rw e at says in listable-within limit most_counted k n q.1 h

-- by the report's
module _ (s : List ℕ) (p : Result (ℕ × ℕ) Refusal) (says : PlanSays most_counted s p) where
  -- a refusal's line is what the line prints
  pub answer-refused : (r : Refusal) → p ≡ Err r → (b : List ℕ) (at x : ℕ) (b' : List ℕ) → Placed b at (refused_line (number_of r)) x b' → Puts (Answers s) line_room b at x b'
  answer-refused r e b at x b' q = record {
    text = refused_line (number_of r);
    says = refused r (rw e at says) refl;
    short = answer-short s
        (refused_line (number_of r)) (refused r (rw e at says) refl);
    placed = q;
  }

  -- and so is that of two numbers
  pub answer-counted : (k n : ℕ) → p ≡ Ok (k, n) → (b : List ℕ) (at x : ℕ) (b' : List ℕ) → Placed b at
      (counts_line (how_many necklace n k) (how_many lyndon n k)) x b' → Puts (Answers s) line_room b at x b'
  answer-counted k n e b at x b' q = record {
    text = counts_line (how_many necklace n k) (how_many lyndon n k);
    says = counted k n (rw e at says) refl;
    short = counts-short k n (accepted-few most_counted s p says k n e (omega arith));
    placed = q;
  }
