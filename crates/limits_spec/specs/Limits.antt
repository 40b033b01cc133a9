-- Which numbers k and n may be listed, counted or written out whole (01, 'Refusal numbers': 1, 2 and 12). `limit` is the greatest power that is not Too many:
-- `most_listed` for the listing program and for a target set, and another for each request that sets one.
--     most_listed                2 to the power 24
--     Listable limit k n        1, 2 and 12 passed
--     numbers_order limit k n    the order; `limit-numbers`: by its numbers, as the client says it
--     NumbersSay limit k n p    what the plan p of the numbers k and n promises
-- That no numbers have two plans: proofs/Unique.
use Rattle.std.specs.Prelude.{ℕ, ◌^◌, ◌≤◌, ◌≡◌, refl, [], ◌∷◌, Result, Ok, Err}
use Rattle.words.specs.Readings.{Sized, Shaded}
use Rattle.refusal.specs.declared.Refusal.{Refusal}
use Rattle.refusal.specs.declared.Refusal.TheVariants.{Length, Shades, TooMany}
use Rattle.refusal.specs.Order.{Checks, fact, ◌▸◌, Given, numbered}

-- the greatest power that is not Too many in the listing program (01), and for a target set (02, g)
abbrev pub most_listed : ℕ
most_listed = 2 ^ 24

-- n and k are a ring's numbers, and there are at most `limit` readings of them
pub record Listable (limit k n : ℕ) : Type 0 where
  pub sized : Sized n
  pub shaded : Shaded k
  pub few : k ^ n ≤ limit

-- the order 1, 2, 12
abbrev pub numbers_order : ℕ → ℕ → ℕ → Checks
numbers_order limit k n = fact (Sized n) (Length 0) ▸ fact (Shaded k) (Shades 0) ▸ fact (k ^ n ≤ limit) TooMany

pub limit-numbers : (limit k n : ℕ) → numbered (numbers_order limit k n) ≡ (1 ∷ 2 ∷ 12 ∷ [])
limit-numbers limit k n = refl

abbrev pub NumbersSay : ℕ → ℕ → ℕ → Result (ℕ × ℕ) Refusal → Type 0
NumbersSay limit k n (Ok (j, m)) = (j ≡ k) × (m ≡ n) × Listable limit k n
NumbersSay limit k n (Err r) = Given (numbers_order limit k n) r
