-- How long the report's lines are.
--     answer-short    no line prints more than 22 bytes
use Rattle.words.proofs.Plain.{ℕ, ◌^◌, ◌≤◌, arith, refl, Bool, true, List, length, length-append}
use Rattle.words.specs.Readings.{readings}
use Rattle.words.proofs.{Readings.readings-all, Count.count-le}
use Rattle.rings.specs.{Necklace.necklace, Necklace.lyndon, Steps.how_many}
use Rattle.ring_total_laws.proofs.Totals.{readings-size}
use Rattle.refusal.specs.Numbers.{number_of}
use Rattle.text_spec.specs.Text.{refused_line}
use Rattle.text_spec.proofs.{Digits.length-decimal, Put.length-refused}
use Rattle.limits_spec.specs.Limits.{Listable}
use Rattle.plan_spec.proofs.Numbers.{plan-number}
use Rattle.how_many_spec.specs.Says.{most_counted}
use Rattle.report_spec.specs.Lines.{counts_line, Answers, counted, refused}
use Rattle.report_spec.specs.Blocks.{line_room}

-- there are at most as many as readings
few : (kind : List ℕ → Bool) (n k : ℕ) → k ^ n ≤ most_counted → how_many kind n k ≤ most_counted
unfolding how_many
few kind n k h = omega (arith, count-le kind (λ w. true) (readings n k) (λ w r e. refl) (readings-all n k), readings-size n k)

-- the line of two numbers
pub counts-short : (k n : ℕ) → Listable most_counted k n → length (counts_line (how_many necklace n k) (how_many lyndon n k)) ≤ line_room
unfolding counts_line
counts-short k n h =
    simp length-append (omega (
      arith,
      length-decimal 9 (how_many necklace n k) (omega (arith, few necklace n k h.few)),
      length-decimal 9
          (how_many lyndon n k) (omega (arith, few lyndon n k h.few)),
    ))

-- the line of a refusal
pub refused-short : (x : ℕ) → x ≤ 12 → length (refused_line x) ≤ line_room
refused-short x h = omega (arith, length-refused x, length-decimal 1 x (omega arith))

-- no line prints more
pub answer-short : (s t : List ℕ) → Answers s t → length t ≤ line_room
answer-short s t (counted k n p e) = rw e (counts-short k n p.1)
answer-short s t (refused r p e) = rw e (refused-short (number_of r) (plan-number most_counted s r p))
