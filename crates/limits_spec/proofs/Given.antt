-- What a plan of two numbers tells.
--     accepted-listable    numbers that are accepted passed 1, 2 and 12
--     listable-within      numbers that pass one limit pass every higher one
--     given-number         the number of their refusal is at most 12
use Rattle.words.proofs.Plain.{ℕ, ◌≤◌, arith, ◌≡◌, inl, inr}
use Rattle.refusal.specs.{declared.Refusal.Refusal, Numbers.number_of, Order.Given}
use Rattle.std.specs.Prelude.{Result, Ok}
use Rattle.limits_spec.specs.Limits.{Listable, numbers_order, NumbersSay}

-- numbers that are accepted
pub accepted-listable : (limit k n j m : ℕ) (p : Result (ℕ × ℕ) Refusal) → p ≡ Ok (j, m) → NumbersSay limit k n p → Listable limit k n
accepted-listable limit k n j m p e q = let s : NumbersSay limit k n (Ok (j, m)) = rw e at q in s.2

-- a higher limit
pub listable-within : (limit most k n : ℕ) → Listable limit k n → limit ≤ most → Listable most k n
listable-within limit most k n l h = record { sized = l.sized; shaded = l.shaded; few = omega (arith, l.few) }

-- the number of a refusal
pub given-number : (limit k n : ℕ) (r : Refusal) → Given (numbers_order limit k n) r → number_of r ≤ 12
given-number limit k n r (inl (inl (e, f))) = rw e (omega arith)
given-number limit k n r (inl (inr (a, (e, f)))) = rw e (omega arith)
given-number limit k n r (inr (a, (e, f))) = rw e (omega arith)
