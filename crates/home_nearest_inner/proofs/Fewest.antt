-- The search for the turn of v that differs from w at the fewest places.
--     Nearest v w i b    the two are at most b apart, b is at most their length, and no turn by less than i differs at fewer places than b
--     nearest-start, nearest-more, nearest-none, nearest-end    from the first turn on, until one differs nowhere or all are passed
use Rattle.words.proofs.Plain.{ℕ, ◌+◌, ◌<◌, ◌≤◌, min, arith, ◌≡◌, List, length}
use Rattle.words.specs.Turn.{turn}
use Rattle.words.proofs.Split.{lt, eq, gt, tri}
use Rattle.rings.specs.Alike.{differing, apart}
use Rattle.ring_home_laws.proofs.Alike.{apart-le, apart-turn-le, apart-at}

pub record Nearest (v w : List ℕ) (i b : ℕ) : Type 0 where
  pub above : apart v w ≤ b
  pub most : b ≤ length v
  pub least : (j : ℕ) → j < i → b ≤ differing (turn j v) w

-- no two readings are further apart than they have places
pub nearest-start : {v w : List ℕ} → Nearest v w 0 (length v)
nearest-start {v = v} {w = w} = record { above = apart-le v w; most = omega arith; least = λ j h. absurd (omega arith) }

-- one turn more, and the smaller of what it gives and the best so far
pub nearest-more : {v w : List ℕ} {i b r : ℕ} → Nearest v w i b → i < length v → r ≡ min (differing (turn i v) w) b → Nearest v w (i + 1) r
nearest-more {v = v} {w = w} {i = i} {r = r} n l e = record { above = omega (arith, n.above, apart-turn-le v w i l); most = omega (arith, n.most); least = least }
  where
    least : (j : ℕ) → j < i + 1 → r ≤ differing (turn j v) w
    least j h = elim (tri j i) [ lt o ↦ omega (arith, n.least j o) | eq o ↦ rw o (omega arith) | gt o ↦ absurd (omega arith) ]

-- a turn that differs nowhere is the nearest
pub nearest-none : {v w : List ℕ} {i b : ℕ} → Nearest v w i b → b ≡ 0 → 0 ≡ apart v w
nearest-none n e = omega (arith, n.above)

-- of all turns, the best is how far apart they are
pub nearest-end : {v w : List ℕ} {i b : ℕ} → Nearest v w i b → length v ≤ i → b ≡ apart v w
nearest-end {v = v} {w = w} {b = b} n h = elim (tri 0 (length v)) [ lt z ↦ at (apart-at v w z) | eq z ↦ omega (arith, n.above, n.most) | gt z ↦ absurd (omega arith) ]
  where
    at : (j : ℕ) × (j < length v) × (differing (turn j v) w ≡ apart v w) → b ≡ apart v w
    at (j, l, e) = omega (arith, n.above, n.least j (omega arith))
