-- Prenecklaces and Lyndon words as sequences (`words`, specs/Sequence), as the scan of a reading and the loops over it speak of them.
--     Pre a n         no ending of the first n is below the beginning of the same length
--     Lyn a n         the first n are below each of their proper endings, at a difference
--     Run a n p       the first p are Lyndon, and from p on every sector repeats the one p places before: lyn of the first n is p
-- That they are `prenecklace`, `lyndon` and `lyn` of `rings`: proofs/Words, Lyndon and Fundamental.
use Rattle.std.specs.Prelude.{ℕ, ◌+◌, ◌-◌, ◌<◌, ◌≤◌, ◌≡◌}
use Rattle.words.specs.Sequence.{from, Less}

-- each ending of the first n is not below the beginning of the same length
abbrev pub Pre : (ℕ → ℕ) → ℕ → Type 0
Pre a n = (i : ℕ) → Less (from i a) a (n - i) → ⊥

-- the first n are below each of their proper endings, and differ from it within it
abbrev pub Lyn : (ℕ → ℕ) → ℕ → Type 0
Lyn a n = (i : ℕ) → 0 < i → i < n → Less a (from i a) (n - i)

-- the first p are Lyndon, and the first n repeat them
pub record Run (a : ℕ → ℕ) (n p : ℕ) : Type 0 where
  pub pos : 0 < p
  pub fits : p ≤ n
  pub again : (i j : ℕ) → p + j ≡ i → i < n → a i ≡ a j
  pub lyn : Lyn a p
