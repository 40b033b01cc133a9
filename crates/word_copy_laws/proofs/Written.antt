-- Bytes written one after another, over plain lists.
--     Written u v m    v is as long as u, and its first m bytes are those of u
--     written_start, written-more, written-end    before the first, one more, after the last
use Rattle.words.proofs.Plain.{ℕ, ◌+◌, ◌<◌, ◌≤◌, arith, ◌≡◌, ◌∙◌, List, length, get_or, set, length-set, get_or-set_same, get_or-set_other, ext_get_or}
use Rattle.words.proofs.Split.{lt, eq, gt, tri}

-- v is as long as u, and its first m bytes are those of u
pub record Written (u v : List ℕ) (m : ℕ) : Type 0 where
  pub long : length v ≡ length u
  pub done : (x : ℕ) → x < m → get_or v x 0 ≡ get_or u x 0

-- before the first byte, nothing is asked
pub written_start : (u v : List ℕ) → length v ≡ length u → Written u v 0
written_start u v e = record { long = e; done = λ x h. absurd (omega arith) }

-- one byte more is written
pub written-more : (u v : List ℕ) (m b : ℕ) → Written u v m → m < length u → b ≡ get_or u m 0 → Written u (set v m b) (m + 1)
written-more u v m b c h e = record { long = length-set v m b ∙ c.long; done = at }
  where
    at : (x : ℕ) → x < m + 1 → get_or (set v m b) x 0 ≡ get_or u x 0
    at x q =
        elim (tri x m) [
          | lt l ↦ get_or-set_other v m x b 0 (λ y. omega arith) ∙ c.done x l
          | eq l ↦ rw l (get_or-set_same v m b 0 (omega (arith, c.long)) ∙ e)
          | gt l ↦ absurd (omega arith)
        ]

-- after the last byte, all are written
pub written-end : (u v : List ℕ) (m : ℕ) → Written u v m → length u ≤ m → v ≡ u
written-end u v m c h = ext_get_or 0 v u c.long (λ x l. c.done x (omega (arith, c.long)))
