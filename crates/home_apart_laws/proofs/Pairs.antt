-- What two readings are that pass the checks of `home::apart` and `home::same_ring`: readings of one n and k. Here alone the order of the checks is looked into.
--     Pair n k v w                v and w are readings of n and k, numbers of the page
--     passed-pair, pair-passed    that is what the checks ask, no less and no more
--     passed-long                 they are of one length
--     pair-swap, pair_turn, pair-turn-right, pair_ends    exchanged, one of them turned, or from two pairs with one in common: still such a pair
use Rattle.words.proofs.Plain.{ℕ, ◌+◌, ◌-◌, ◌<◌, ◌≤◌, arith, ◌≡◌, refl, sym, ap, ◌∙◌, List, ◌++◌, length, get_or, length-append, List·get_d-append}
use Rattle.words.proofs.{Plain.get_or-append-add, Turn.reading-turn}
use Rattle.words.specs.Turn.{turn}
use Rattle.words.specs.Readings.{Sized, Shaded, Reading}
use Rattle.words.proofs.Split.{lt, eq, gt, tri}
use Rattle.refusal.specs.{Order.Passed, Calls.two_readings}

pub record Pair (n k : ℕ) (v w : List ℕ) : Type 0 where
  pub sized : Sized n
  pub shaded : Shaded k
  pub first : Reading n k v
  pub second : Reading n k w

module _ (v w : List ℕ) (k : ℕ) where
  -- they are of one length
  pub passed-long : Passed (two_readings v w k) → length v ≡ length w
  passed-long p = sym p.0.0.0.0.0.1

  -- what the checks ask is no less
  pub passed-pair : Passed (two_readings v w k) → Pair (length v) k v w
  passed-pair p =
      let low = p.0.0.0.1 in
      record {
        sized = p.0.0.0.0.0.0;
        shaded = p.0.0.0.0.1;
        first = record { long = refl; shades = λ i h. rw (List·get_d-append v w 0 i h) at (low i (rw length-append (omega arith))) };
        second = record { long = sym (passed-long p); shades = λ i h. rw (get_or-append-add v w i 0) at (low (length v + i) (rw length-append (omega (arith, passed-long p)))) };
      }

  -- and no more
  pub pair-passed : (n : ℕ) → Pair n k v w → Passed (two_readings v w k)
  pair-passed n p = ((((((rw p.first.long p.sized, p.second.long ∙ sym p.first.long), p.shaded), low), tt), tt), refl)
    where
      low : (i : ℕ) → i < length (v ++ w) → get_or (v ++ w) i 0 < k
      low i h =
          elim (tri i (length v)) [
            | lt l ↦ rw (List·get_d-append v w 0 i l) (p.first.shades i (omega (arith, p.first.long)))
            | eq l ↦ behind (omega arith)
            | gt l ↦ behind (omega arith)
          ]
        where
          behind : length v ≤ i → get_or (v ++ w) i 0 < k
          behind l =
              let e : i ≡ length v + (i - length v) = omega arith in
              rw (ap (λ (x : ℕ). get_or (v ++ w) x 0) e ∙ get_or-append-add v w (i - length v) 0)
              (p.second.shades (i - length v) (omega (arith, length-append v w, p.first.long, p.second.long)))

-- exchanged
pub pair-swap : {n k : ℕ} {v w : List ℕ} → Pair n k v w → Pair n k w v
pair-swap p = record { sized = p.sized; shaded = p.shaded; first = p.second; second = p.first }

-- the first turned
pub pair_turn : {n k : ℕ} {v w : List ℕ} (i : ℕ) → i ≤ n → Pair n k v w → Pair n k (turn i v) w
pair_turn {n} {k} {v} i h p = record { sized = p.sized; shaded = p.shaded; first = reading-turn n k v p.first i h; second = p.second }

-- the second turned
pub pair-turn-right : {n k : ℕ} {v w : List ℕ} (i : ℕ) → i ≤ n → Pair n k v w → Pair n k v (turn i w)
pair-turn-right i h p = pair-swap (pair_turn i h (pair-swap p))

-- the outer ones of two pairs
pub pair_ends : {n m k : ℕ} {u v w : List ℕ} → Pair n k u v → Pair m k v w → n ≡ m → Pair n k u w
pair_ends p q e = record { sized = p.sized; shaded = p.shaded; first = p.first; second = rw (sym e) at q.second }
