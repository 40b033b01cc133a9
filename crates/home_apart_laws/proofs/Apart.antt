-- How far apart rings are (02, request d), of whatever answers the contracts of `home::apart` and `home::same_ring` admit. v and w are any readings, also ones that are refused.
--     either_way                   whichever is given first, `apart` answers alike
--     turned-first, turned-second  turning either reading, by any number of sectors up to its length, changes no answer of `apart`
--     turned-first-told, turned-second-told, either-way-told    nor one of `same_ring`, which is alike either way too
--     zero_same                    `apart` answers 0 exactly where `same_ring` answers yes, and both give the same refusal
--     triangle                     of three answers: where two are distances the third is one, and no more than both together
--     apart-most                   no answer is more than n
use Rattle.words.proofs.Plain.{ℕ, zero, suc, ◌-◌, ◌≤◌, ◌<◌, arith, ◌≡◌, sym, subst, ◌∙◌, Bool, true, false, List, length}
use Rattle.std.specs.Prelude.{Result, Ok, Err}
use Rattle.words.specs.Turn.{turn}
use Rattle.words.proofs.{Split.clash, Turn.length-turn, Turn.turn-back}
use Rattle.rings.specs.Alike.{apart, same_ring}
use Rattle.ring_home_laws.proofs.Alike.{apart-le, apart-sym, apart-of-turn, apart-of-turn-right, apart-triangle, apart-zero, zero-apart, same-ring-sym}
use Rattle.ring_home_laws.proofs.Home.{home-of-turn}
use Rattle.refusal.specs.{declared.Refusal.Refusal, Order.Passed, Calls.two_readings}
use Rattle.refusal.proofs.Unique.{one-refusal, never_both}
use Rattle.home_spec.specs.Says.{DistanceSays}
use Rattle.home_apart_laws.specs.Agree.{SameSays, Alike, distance, both-refused, AlikeTold, both_tell, neither-told, Zero, same, other, refused, Within, within}
use Rattle.home_apart_laws.proofs.Pairs.{passed-long, passed-pair, pair-passed, pair-swap, pair_turn, pair_ends}

-- ---- two questions

-- two questions that pass together, and of which the definitions say the same
module _ (k : ℕ) (v w x y : List ℕ) (to : Passed (two_readings v w k) → Passed (two_readings x y k)) (back : Passed (two_readings x y k) → Passed (two_readings v w k)) where
  -- have answers of `apart` that are alike
  answers : (Passed (two_readings v w k) → apart v w ≡ apart x y) → (a b : Result ℕ Refusal) → DistanceSays v w k a → DistanceSays x y k b → Alike a b
  answers e (Ok d) (Ok f) s t = subst (λ (z : ℕ). Alike (Ok d) (Ok z)) (s.1 ∙ e s.0 ∙ sym t.1) (distance d)
  answers e (Ok d) (Err r) s t = absurd (never_both (two_readings x y k) r t (to s.0))
  answers e (Err r) (Ok f) s t = absurd (never_both (two_readings v w k) r s (back t.0))
  answers e (Err r) (Err o) s t = both-refused r o

  -- and answers of `same_ring` that are alike
  told : (Passed (two_readings v w k) → same_ring v w ≡ same_ring x y) → (a b : Result Bool Refusal) → SameSays v w k a → SameSays x y k b → AlikeTold a b
  told e (Ok p) (Ok q) s t = subst (λ (u : Bool). AlikeTold (Ok p) (Ok u)) (sym s.1 ∙ e s.0 ∙ t.1) (both_tell p)
  told e (Ok p) (Err r) s t = absurd (never_both (two_readings x y k) r t (to s.0))
  told e (Err r) (Ok q) s t = absurd (never_both (two_readings v w k) r s (back t.0))
  told e (Err r) (Err o) s t = neither-told r o

-- ---- whichever is given first

swapped : (k : ℕ) (v w : List ℕ) → Passed (two_readings v w k) → Passed (two_readings w v k)
swapped k v w p = pair-passed w v k (length v) (pair-swap (passed-pair v w k p))

pub either_way : (k : ℕ) (v w : List ℕ) (a b : Result ℕ Refusal) → DistanceSays v w k a → DistanceSays w v k b → Alike a b
either_way k v w = answers k v w w v (swapped k v w) (swapped k w v) (λ p. apart-sym v w (passed-long v w k p))

pub either-way-told : (k : ℕ) (v w : List ℕ) (a b : Result Bool Refusal) → SameSays v w k a → SameSays w v k b → AlikeTold a b
either-way-told k v w = told k v w w v (swapped k v w) (swapped k w v) (λ p. same-ring-sym v w)

-- ---- turned

-- turning a reading does not change whose ring it is
same-turned : (v w : List ℕ) (i : ℕ) → 0 < length v → i ≤ length v → same_ring (turn i v) w ≡ same_ring v w
unfolding same_ring
same-turned v w i z h = rw (home-of-turn v i z h)

module _ (k : ℕ) (v w : List ℕ) (i : ℕ) (h : i ≤ length v) where
  forth : Passed (two_readings v w k) → Passed (two_readings (turn i v) w k)
  forth p = pair-passed (turn i v) w k (length v) (pair_turn i h (passed-pair v w k p))

  back : Passed (two_readings (turn i v) w k) → Passed (two_readings v w k)
  back p =
      let q = rw (length-turn i v h) at (passed-pair (turn i v) w k p) in
      pair-passed v w k (length v) (rw (turn-back i v h) at (pair_turn (length v - i) (omega arith) q))

  pub turned-first : (a b : Result ℕ Refusal) → DistanceSays v w k a → DistanceSays (turn i v) w k b → Alike a b
  turned-first = answers k v w (turn i v) w forth back (λ p. sym (apart-of-turn v w i (passed-long v w k p) h))

  pub turned-first-told : (a b : Result Bool Refusal) → SameSays v w k a → SameSays (turn i v) w k b → AlikeTold a b
  turned-first-told = told k v w (turn i v) w forth back (λ p. sym (same-turned v w i (passed-pair v w k p).sized.0 h))

module _ (k : ℕ) (v w : List ℕ) (i : ℕ) (h : i ≤ length w) where
  forth-second : Passed (two_readings v w k) → Passed (two_readings v (turn i w) k)
  forth-second p = swapped k (turn i w) v (forth k w v i h (swapped k v w p))

  back-second : Passed (two_readings v (turn i w) k) → Passed (two_readings v w k)
  back-second p = swapped k w v (back k w v i h (swapped k v (turn i w) p))

  pub turned-second : (a b : Result ℕ Refusal) → DistanceSays v w k a → DistanceSays v (turn i w) k b → Alike a b
  turned-second = answers k v w v (turn i w) forth-second back-second (λ p. sym (apart-of-turn-right v w i (passed-long v w k p) h))

  pub turned-second-told : (a b : Result Bool Refusal) → SameSays v w k a → SameSays v (turn i w) k b → AlikeTold a b
  turned-second-told =
      told k v w v (turn i w) forth-second back-second
      (λ p. same-ring-sym v w ∙ sym (same-turned w v i (omega (arith, passed-long v w k p, (passed-pair v w k p).sized.0)) h) ∙ same-ring-sym (turn i w) v)

-- ---- 0 and the same ring

-- 0 exactly where yes, and the same refusal
pub zero_same : (k : ℕ) (v w : List ℕ) (a : Result ℕ Refusal) (t : Result Bool Refusal) → DistanceSays v w k a → SameSays v w k t → Zero a t
zero_same k v w (Ok d) (Ok true) s t =
    subst (λ (z : ℕ). Zero (Ok z) (Ok true)) (sym (s.1 ∙ zero-apart v w (passed-long v w k s.0) t.1)) same
zero_same k v w (Ok zero) (Ok false) s t = clash (same_ring v w) (apart-zero v w (passed-long v w k s.0) (sym s.1)) t.1
zero_same k v w (Ok (suc d)) (Ok false) s t = other (suc d) (omega arith)
zero_same k v w (Ok d) (Err r) s t = absurd (never_both (two_readings v w k) r t s.0)
zero_same k v w (Err r) (Ok true) s t = absurd (never_both (two_readings v w k) r s t.0)
zero_same k v w (Err r) (Ok false) s t = absurd (never_both (two_readings v w k) r s t.0)
zero_same k v w (Err r) (Err o) s t =
    subst (λ (z : Refusal). Zero (Err r) (Err z)) (one-refusal (two_readings v w k) r o s t) (refused r)

-- ---- the triangle

pub triangle : (k : ℕ) (u v w : List ℕ) (a b : ℕ) (z : Result ℕ Refusal) → DistanceSays u v k (Ok a) → DistanceSays v w k (Ok b) → DistanceSays u w k z → Within a b z
triangle k u v w a b (Ok c) s t x =
    within c (omega (arith, s.1, t.1, x.1, apart-triangle u v w (passed-long u v k s.0) (passed-long v w k t.0)))
triangle k u v w a b (Err r) s t x =
    absurd (never_both (two_readings u w k) r x (pair-passed u w k (length u) (pair_ends (passed-pair u v k s.0) (passed-pair v w k t.0) (passed-long u v k s.0))))

-- no answer is more than n
pub apart-most : (k : ℕ) (v w : List ℕ) (d : ℕ) → DistanceSays v w k (Ok d) → d ≤ length v
apart-most k v w d s = omega (arith, s.1, apart-le v w)
