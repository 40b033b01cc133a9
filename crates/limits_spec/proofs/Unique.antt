-- No numbers have two plans, for any limit.
--     listable-passed     numbers that can be listed pass every check
--     passed-listable     and the other way round
--     one-numbers         no two plans satisfy what is promised of the numbers
use Rattle.words.proofs.Plain.{ℕ, ◌≡◌, ap}
use Rattle.refusal.specs.Order.{Passed}
use Rattle.refusal.proofs.Unique.{one-refusal, never_both}
use Rattle.std.specs.Prelude.{Result, Ok, Err}
use Rattle.refusal.specs.declared.Refusal.{Refusal}
use Rattle.limits_spec.specs.Limits.{Listable, numbers_order, NumbersSay}

module _ (limit k n : ℕ) where
  pub listable-passed : Listable limit k n → Passed (numbers_order limit k n)
  listable-passed l = ((l.sized, l.shaded), l.few)

  pub passed-listable : Passed (numbers_order limit k n) → Listable limit k n
  passed-listable p = record { sized = p.0.0; shaded = p.0.1; few = p.1 }

  pub one-numbers : (p q : Result (ℕ × ℕ) Refusal) → NumbersSay limit k n p → NumbersSay limit k n q → p ≡ q
  one-numbers (Ok (j, m)) (Ok (i, l)) a b = cc (a.0, a.1, b.0, b.1)
  one-numbers (Ok (j, m)) (Err t) a b = absurd (never_both (numbers_order limit k n) t b (listable-passed a.2))
  one-numbers (Err r) (Ok (i, l)) a b = absurd (never_both (numbers_order limit k n) r a (listable-passed b.2))
  one-numbers (Err r) (Err t) a b = ap Err (one-refusal (numbers_order limit k n) r t a b)
