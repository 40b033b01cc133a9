-- The search for a turn of v that differs from w at fewer than d places.
--     NoneNearer v w d i    no turn by less than i does
--     turns-start, turns_more, turns-found, turns-end    from the first turn on, until one does or all are passed
use Rattle.words.proofs.Plain.{ℕ, ◌+◌, ◌<◌, ◌≤◌, min, arith, ◌≡◌, sym, true, false, List, ltb, length, lt-ltb, le-ltb}
use Rattle.words.specs.Turn.{turn}
use Rattle.words.proofs.Split.{lt, eq, gt, tri}
use Rattle.rings.specs.Alike.{differing, apart}
use Rattle.ring_home_laws.proofs.Alike.{apart-turn-le, apart-at}

-- no turn by less than i is nearer than d
pub record NoneNearer (v w : List ℕ) (d i : ℕ) : Type 0 where
  pub within : i ≤ length v
  pub far : (j : ℕ) → j < i → d ≤ differing (turn j v) w

pub turns-start : {v w : List ℕ} {d : ℕ} → NoneNearer v w d 0
turns-start = record { within = omega arith; far = λ j h. absurd (omega arith) }

module _ {v w : List ℕ} {d i : ℕ} (n : NoneNearer v w d i) {r : ℕ} (e : r ≡ min (differing (turn i v) w) d) where
  -- one turn more
  pub turns_more : i < length v → d ≤ r → NoneNearer v w d (i + 1)
  turns_more l h =
      record { within = omega arith; far = λ j m. elim (tri j i) [ lt o ↦ n.far j o | eq o ↦ rw o (omega arith) | gt o ↦ absurd (omega arith) ] }

  -- one that is nearer decides
  pub turns-found : i < length v → r < d → true ≡ ltb (apart v w) d
  turns-found l h = sym (lt-ltb (apart v w) d (omega (arith, apart-turn-le v w i l)))

-- none is
pub turns-end : {v w : List ℕ} {d i : ℕ} → 0 < length v → NoneNearer v w d i → length v ≤ i → false ≡ ltb (apart v w) d
turns-end {v = v} {w = w} {d = d} z n h = at (apart-at v w z)
  where
    at : (j : ℕ) × (j < length v) × (differing (turn j v) w ≡ apart v w) → false ≡ ltb (apart v w) d
    at (j, l, e) = sym (le-ltb (apart v w) d (omega (arith, e, n.far j (omega arith))))
