-- Steady readings: none of their own turns comes near.
--     steady-each, each-steady     the test, and turn by turn
--     not-steady                   one that is not has a turn that comes near
--     turn-other-way               turned by i and by n - i, a reading differs from itself at as many places
--     half-steady                  so half of the turns tell
--     further                      a reading r that differs from a steady v at no more than x places differs from it, turned further on, at more than e, where x and e are together below d
use Rattle.words.proofs.Plain.{ℕ, zero, suc, ◌+◌, ◌-◌, ◌<◌, ◌≤◌, arith, ◌≡◌, refl, sym, ap, ◌∙◌, true, false, not, List, ltb, length, ltb-true, ltb-false}
use Rattle.words.proofs.Plain.{le-ltb}
use Rattle.words.specs.Turn.{turn}
use Rattle.words.proofs.Split.{passes, fails, test, lt, eq, gt, tri, clash}
use Rattle.words.proofs.Search.{all-at, all_of, not-all}
use Rattle.words.proofs.Turn.{length-turn, turn-back}
use Rattle.rings.specs.Alike.{differing}
use Rattle.ring_home_laws.proofs.Alike.{differing-sym, differing-turn, differing-triangle}
use Rattle.home_spec.specs.Turns.{turn_far, steady, Steady}

far-le : (d : ℕ) (w : List ℕ) (j : ℕ) → turn_far d w j ≡ true → d ≤ differing (turn (suc j) w) w
unfolding turn_far
far-le d w j h =
    let x = differing (turn (suc j) w) w in
    elim (test (ltb x d)) [ passes e ↦ clash (not (ltb x d)) h (rw e refl) | fails e ↦ ltb-false x d e ]

le-far : (d : ℕ) (w : List ℕ) (j : ℕ) → d ≤ differing (turn (suc j) w) w → turn_far d w j ≡ true
unfolding turn_far
le-far d w j h = rw (le-ltb (differing (turn (suc j) w) w) d h) refl

pub steady-each : (d : ℕ) (w : List ℕ) → steady d w ≡ true → Steady d w
unfolding steady
steady-each d w s zero z h = absurd (omega arith)
steady-each d w s (suc j) z h = far-le d w j (all-at (length w - 1) (turn_far d w) s j (omega arith))

pub each-steady : (d : ℕ) (w : List ℕ) → Steady d w → steady d w ≡ true
unfolding steady
each-steady d w s = all_of (length w - 1) (turn_far d w) (λ j h. le-far d w j (s (suc j) (omega arith) (omega arith)))

-- one that is not has a turn that comes near
pub not-steady : (d : ℕ) (w : List ℕ) → steady d w ≡ false → (j : ℕ) × (0 < j) × (j < length w) × (differing (turn j w) w < d)
unfolding steady turn_far
not-steady d w h = found (not-all (length w - 1) (turn_far d w) h)
  where
    found : (j : ℕ) × (j < length w - 1) × (turn_far d w j ≡ false) → (j : ℕ) × (0 < j) × (j < length w) × (differing (turn j w) w < d)
    found (j, l, e) = (suc j, omega arith, omega arith, near-lt e)
      where
        near-lt : turn_far d w j ≡ false → differing (turn (suc j) w) w < d
        near-lt q = let x = differing (turn (suc j) w) w in elim (test (ltb x d)) [ passes p ↦ ltb-true x d p | fails p ↦ clash (not (ltb x d)) (rw p refl) q ]

-- turned the other way round
pub turn-other-way : (w : List ℕ) (i : ℕ) → i ≤ length w → differing (turn i w) w ≡ differing (turn (length w - i) w) w
turn-other-way w i h =
    let a = rw (turn-back i w h) at (differing-turn (length w - i) (turn i w) w (length-turn i w h) (omega (arith, length-turn i w h))) in
    omega (arith, differing-sym w (turn (length w - i) w))

-- half of the turns tell
pub half-steady : (d : ℕ) (w : List ℕ) (m : ℕ) → length w < m + m → ((i : ℕ) → 0 < i → i < m → d ≤ differing (turn i w) w) → Steady d w
half-steady d w m b f j z h =
    elim (tri j m) [
      | lt l ↦ f j z l
      | eq l ↦ omega (arith, turn-other-way w j (omega arith), f (length w - j) (omega arith) (omega arith))
      | gt l ↦ omega (arith, turn-other-way w j (omega arith), f (length w - j) (omega arith) (omega arith))
    ]

-- a reading r, and a ring v that none of its own turns comes near
module _ (d x e : ℕ) (r v : List ℕ) (size : length r ≡ length v) (steady : Steady d v) (small : x + e < d) where
  -- turned on by m from there
  pub further : (i j m : ℕ) → i ≤ length r → 0 < m → m < length r → turn m (turn i r) ≡ turn j r → differing (turn i r) v ≤ x → e < differing (turn j r) v
  further i j m h z l t near =
      let long = length-turn i r h in
      let a = differing-turn m v (turn i r) (sym size ∙ sym long) (omega arith) in
      let b = differing-triangle (turn m v) (turn m (turn i r)) v (length-turn m v (omega arith) ∙ sym size ∙ sym (length-turn m (turn i r) (omega arith) ∙ long)) in
      let c : differing (turn m (turn i r)) v ≡ differing (turn j r) v = ap (λ (y : List ℕ). differing y v) t in
      omega (arith, steady m z (omega arith), differing-sym v (turn i r))
