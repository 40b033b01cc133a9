-- Words as sequences. A word is a function from places to shades together with a length n: a beginning is a smaller n, an ending is the function shifted.
--     sec w              the sectors of a list, 0 past its end
--     from i a           the sequence a from place i on
--     Less f g n         f is below g within n places, with the first difference as witness
use Rattle.std.specs.Prelude.{ℕ, ◌+◌, ◌<◌, ◌≡◌, List, get_or}

-- the sectors of a word
abbrev pub sec : List ℕ → ℕ → ℕ
sec w i = get_or w i 0

-- the sequence from place i on
abbrev pub from : ℕ → (ℕ → ℕ) → ℕ → ℕ
from i a m = a (i + m)

-- f is below g within n places: they agree up to the first difference, where f is smaller
pub record Less (f g : ℕ → ℕ) (n : ℕ) : Type 0 where
  pub at : ℕ
  pub bound : at < n
  pub agree : (m : ℕ) → m < at → f m ≡ g m
  pub less : f at < g at
