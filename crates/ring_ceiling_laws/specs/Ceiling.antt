-- How far one step can go, as sentences over the definitions of `rings` (02, request h; demand 3).
--     PrenecklaceOf n k w            w is a prenecklace of n sectors, at least one, and k shades
--     step_moves kind k w             the moves that a step from w to the next of the kind reports, Done included
--     Ceiling kind n k m             no step of the kind, from any prenecklace of n and k, reports more than m moves
--     Best kind n k m w              that, and the step from w reports as many
--     lyndon_ceiling, necklace_ceiling the two numbers, of n alone
--     LyndonCeilingHolds             request h's sentence
-- That they hold: proofs/Ceiling; that they are the best: proofs/Reached.
use Rattle.std.specs.Prelude.{ℕ, ◌+◌, ◌/◌, ◌<◌, ◌≤◌, ◌≡◌, Bool, true, List}
use Rattle.words.specs.Readings.{Reading}
use Rattle.rings.specs.Necklace.{lyndon}
use Rattle.rings.specs.Prenecklace.{prenecklace}
use Rattle.rings.specs.Steps.{next_of, moves}

-- w is a prenecklace of n sectors, at least one, and k shades. That k is at least 1 follows: a sector is below k
pub record PrenecklaceOf (n k : ℕ) (w : List ℕ) : Type 0 where
  pub pos : 0 < n
  pub reading : Reading n k w
  pub pre : prenecklace w ≡ true

-- the moves that a step reports: to the next of the kind, or, where there is none and the step is Done, all that are left
unfoldable pub step_moves : (List ℕ → Bool) → ℕ → List ℕ → ℕ
step_moves kind k w = moves k w (next_of kind k w)

-- no step of the kind, from any prenecklace of n and k, reports more than m moves
abbrev pub Ceiling : (List ℕ → Bool) → ℕ → ℕ → ℕ → Type 0
Ceiling kind n k m = (w : List ℕ) → PrenecklaceOf n k w → step_moves kind k w ≤ m

-- m is the best ceiling: no step reports more, and the step from w reports as many
pub record Best (kind : List ℕ → Bool) (n k m : ℕ) (w : List ℕ) : Type 0 where
  pub within : Ceiling kind n k m
  pub starts : PrenecklaceOf n k w
  pub reached : step_moves kind k w ≡ m

-- to the next Lyndon word: half of n, rounded down, plus 1
abbrev pub lyndon_ceiling : ℕ → ℕ
lyndon_ceiling n = n / 2 + 1

-- to the next necklace: half of n + 1, rounded down
abbrev pub necklace_ceiling : ℕ → ℕ
necklace_ceiling n = (n + 1) / 2

-- request h: a step to the next Lyndon word never reports more than half of n, rounded down, plus 1 moves, from any prenecklace; Done included
abbrev pub LyndonCeilingHolds : Type 0
LyndonCeilingHolds = (n k : ℕ) → Ceiling lyndon n k (lyndon_ceiling n)
