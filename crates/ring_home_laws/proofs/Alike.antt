-- Comparing readings, and a ring seen from the other side (specs/Alike of `rings`).
--     same-ring-true, true-same-ring, same-ring-turn, turn-same-ring    same ring: one home reading, or one a turn of the other
--     same-ring-refl, same-ring-sym, same-ring-trans                    same ring is an equivalence
--     differing-refl, differing-sym, differing-zero, differing-le,
--     differing-triangle, differing-append, differing-turn              how many places two readings differ at
--     apart-turn-le, apart-at, apart-turns-le                           apart is the smallest over all turns of one, and of both
--     apart-le, apart-home-le                                           it is at most n, and no more than the home readings differ
--     apart-of-turn, apart-of-turn-right                                turns change it neither of the first nor of the second
--     apart-sym, apart-triangle, apart-zero, zero-apart                 it is symmetric, obeys the triangle, and is 0 exactly where the ring is the same
--     length-mirrored, mirrored-reading, mirrored-necklace              the ring seen from the other side is a home reading
--     mirrored-of-turn, mirrored-mirrored                               turns do not change it, and its other side is the ring
--     even-mirrored, mirrored-even, even-of-turn, even-home             even-handed: the other side is the ring; turns do not change it
use Rattle.words.proofs.Plain.{ℕ, ◌+◌, ◌-◌, ◌<◌, ◌≤◌, arith, ◌≡◌, refl, sym, ap, ◌∙◌, true, not, List, [], ◌∷◌, ◌++◌, reverse, reverse-reverse, eqb, length}
use Rattle.words.proofs.Plain.{take, drop, length-take, length-drop, length-reverse, take-append-drop, eqb-true, eq-eqb}
use Rattle.words.specs.{Order.same, Turn.turn, Readings.Reading, Readings.bit}
use Rattle.words.proofs.Split.{passes, fails, test, lt, eq, gt, tri, clash, agree}
use Rattle.words.proofs.Search.{some_of, some_at, least-le, least_at, least-none}
use Rattle.words.proofs.Lex.{same_true, true_same}
use Rattle.words.proofs.Turn.{length-turn, turn-zero, turn-back, turn-again, turn-between, reverse-turn, reading-reverse}
use Rattle.rings.specs.{Necklace.necklace, Home.home, Home.shift}
use Rattle.rings.specs.Alike.{even_handed, same_ring, differing, turn_differs, apart, mirrored}
use Rattle.ring_home_laws.proofs.Home.{length-home, shift-lt, home-turn-of, home-reading, home-necklace, home-of-turn, one-home-turn, turn-one-home}

-- ---- same ring

-- readings of the same ring have one home reading
pub same-ring-true : (v w : List ℕ) → same_ring v w ≡ true → home v ≡ home w
unfolding same_ring
same-ring-true v w h = same_true (home v) (home w) h

-- readings with one home reading are of the same ring
pub true-same-ring : (v w : List ℕ) → home v ≡ home w → same_ring v w ≡ true
unfolding same_ring
true-same-ring v w e = true_same (home v) (home w) e

-- readings of one length that are of the same ring are turns of one another
pub same-ring-turn : (v w : List ℕ) → 0 < length w → length v ≡ length w → same_ring v w ≡ true → (i : ℕ) × (i < length w) × (turn i w ≡ v)
same-ring-turn v w z e h = one-home-turn v w z e (same-ring-true v w h)

-- a turn of a reading is of the same ring
pub turn-same-ring : (v w : List ℕ) (i : ℕ) → 0 < length w → i ≤ length w → turn i w ≡ v → same_ring v w ≡ true
turn-same-ring v w i z l t = true-same-ring v w (turn-one-home v w i z l t)

-- a reading is of its own ring
pub same-ring-refl : (w : List ℕ) → same_ring w w ≡ true
same-ring-refl w = true-same-ring w w refl

-- same ring is the same the other way round
pub same-ring-sym : (v w : List ℕ) → same_ring v w ≡ same_ring w v
same-ring-sym v w =
    agree (same_ring v w) (same_ring w v) (λ h. true-same-ring w v (sym (same-ring-true v w h))) (λ h. true-same-ring v w (sym (same-ring-true w v h)))

-- readings of the same ring as a third are of the same ring
pub same-ring-trans : (u v w : List ℕ) → same_ring u v ≡ true → same_ring v w ≡ true → same_ring u w ≡ true
same-ring-trans u v w p q = true-same-ring u w (same-ring-true u v p ∙ same-ring-true v w q)

-- ---- at how many places two readings differ

-- a reading differs from itself nowhere
pub differing-refl : (w : List ℕ) → differing w w ≡ 0
unfolding differing
differing-refl [] = refl
differing-refl (a ∷ w) = rw (eq-eqb a a refl) (omega (arith, differing-refl w))

-- two readings differ from one another at as many places
pub differing-sym : (v w : List ℕ) → differing v w ≡ differing w v
unfolding differing
differing-sym [] [] = refl
differing-sym [] (b ∷ w) = refl
differing-sym (a ∷ v) [] = refl
differing-sym (a ∷ v) (b ∷ w) =
    let flip = agree (eqb a b) (eqb b a) (λ h. eq-eqb b a (sym (eqb-true a b h))) (λ h. eq-eqb a b (sym (eqb-true b a h))) in
    rw flip (omega (arith, differing-sym v w))

-- readings of one length that differ nowhere are one
pub differing-zero : (v w : List ℕ) → length v ≡ length w → differing v w ≡ 0 → v ≡ w
unfolding differing
differing-zero [] [] e h = refl
differing-zero [] (b ∷ w) e h = absurd (omega arith)
differing-zero (a ∷ v) [] e h = absurd (omega arith)
differing-zero (a ∷ v) (b ∷ w) e h =
    elim (test (eqb a b)) [
      | passes q ↦ rw (eqb-true a b q, differing-zero v w (omega arith) (omega arith))
      | fails q ↦ absurd (let g = rw q at h in omega arith)
    ]

-- a reading differs from another at no more places than it has
pub differing-le : (v w : List ℕ) → differing v w ≤ length v
unfolding differing
differing-le [] w = omega arith
differing-le (a ∷ v) [] = omega arith
differing-le (a ∷ v) (b ∷ w) =
    elim (test (eqb a b)) [ passes q ↦ rw q (omega (arith, differing-le v w)) | fails q ↦ rw q (omega (arith, differing-le v w)) ]

-- sectors that differ, one of them differs from any third
one-differs : (a b c : ℕ) → bit (not (eqb a c)) ≤ bit (not (eqb a b)) + bit (not (eqb b c))
one-differs a b c =
    elim (test (eqb a c)) [
      | passes e ↦ rw e (omega arith)
      | fails e ↦
          elim (test (eqb a b)) [
            | passes q ↦ elim (test (eqb b c)) [ passes r ↦ clash (eqb a c) (eq-eqb a c (eqb-true a b q ∙ eqb-true b c r)) e | fails r ↦ rw (e, q, r) (omega arith) ]
            | fails q ↦ rw (e, q) (omega arith)
          ]
    ]

-- two readings differ at no more places than they do from a third together
pub differing-triangle : (u v w : List ℕ) → length u ≡ length v → differing u w ≤ differing u v + differing v w
unfolding differing
differing-triangle [] v w e = omega arith
differing-triangle (a ∷ u) [] w e = absurd (omega arith)
differing-triangle (a ∷ u) (b ∷ v) [] e = omega arith
differing-triangle (a ∷ u) (b ∷ v) (c ∷ w) e = omega (arith, one-differs a b c, differing-triangle u v w (omega arith))

-- readings joined differ where their parts do
pub differing-append : (a b c d : List ℕ) → length a ≡ length c → differing (a ++ b) (c ++ d) ≡ differing a c + differing b d
unfolding differing
differing-append [] b [] d e = omega arith
differing-append [] b (y ∷ c) d e = absurd (omega arith)
differing-append (x ∷ a) b [] d e = absurd (omega arith)
differing-append (x ∷ a) b (y ∷ c) d e = omega (arith, differing-append a b c d (omega arith))

-- turned alike, two readings differ at as many places
pub differing-turn : (i : ℕ) (v w : List ℕ) → length v ≡ length w → i ≤ length v → differing (turn i v) (turn i w) ≡ differing v w
unfolding turn
differing-turn i v w e h = turned ∙ omega (arith, whole)
  where
    turned : differing (drop i v ++ take i v) (drop i w ++ take i w) ≡ differing (drop i v) (drop i w) + differing (take i v) (take i w)
    turned = differing-append (drop i v) (take i v) (drop i w) (take i w) (simp (length-drop, e))

    whole : differing v w ≡ differing (take i v) (take i w) + differing (drop i v) (drop i w)
    whole =
        ap (λ x. differing x w) (sym (take-append-drop i v)) ∙ ap (differing (take i v ++ drop i v)) (sym (take-append-drop i w)) ∙ differing-append
        (take i v) (drop i v) (take i w) (drop i w) (simp (length-take, e))

-- ---- apart

-- two readings are at most as far apart as they have places
pub apart-le : (v w : List ℕ) → apart v w ≤ length v
unfolding apart
apart-le v w = least-le (length v) (turn_differs v w)

-- no turn of the one differs from the other at fewer places than they are apart
pub apart-turn-le : (v w : List ℕ) (i : ℕ) → i < length v → apart v w ≤ differing (turn i v) w
unfolding apart turn_differs
apart-turn-le v w i h =
    elim (tri (differing (turn i v) w) (apart v w)) [
      | lt l ↦ clash (turn_differs v w (differing (turn i v) w)) (some_of (length v) (λ j. eqb (differing (turn j v) w) (differing (turn i v) w)) i h
          (eq-eqb (differing (turn i v) w) (differing (turn i v) w) refl)) (least-none (length v) (turn_differs v w) (differing (turn i v) w) l)
      | eq l ↦ omega arith
      | gt l ↦ omega arith
    ]

-- some turn of the one differs from the other at as many places as they are apart
pub apart-at : (v w : List ℕ) → 0 < length v → (i : ℕ) × (i < length v) × (differing (turn i v) w ≡ apart v w)
unfolding apart turn_differs
apart-at v w z =
    elim (tri (apart v w) (length v)) [
      | lt l ↦ at (some_at (length v) (λ i. eqb (differing (turn i v) w) (apart v w)) (least_at (length v) (turn_differs v w) l))
      | eq l ↦ (0, z, omega (arith, apart-turn-le v w 0 z, differing-le (turn 0 v) w, length-turn 0 v (omega arith)))
      | gt l ↦ absurd (omega (arith, apart-le v w))
    ]
  where
    at : (i : ℕ) × (i < length v) × (eqb (differing (turn i v) w) (apart v w) ≡ true) → (i : ℕ) × (i < length v) × (differing (turn i v) w ≡ apart v w)
    at (i, l, e) = (i, l, eqb-true (differing (turn i v) w) (apart v w) e)

-- a length is 0, or it is not
none_or_some : {C : Type 0} (n : ℕ) → (n ≡ 0 → C) → (0 < n → C) → C
none_or_some n f g = elim (tri 0 n) [ lt z ↦ g z | eq z ↦ f (sym z) | gt z ↦ absurd (omega arith) ]

module _ (v w : List ℕ) (e : length v ≡ length w) where
  -- no turns of the two differ at fewer places than they are apart
  pub apart-turns-le : (i j : ℕ) → i ≤ length v → j ≤ length w → apart v w ≤ differing (turn i v) (turn j w)
  apart-turns-le i j h k =
      none_or_some (length v) (λ z. omega (arith, apart-le v w)) (λ z. back (turn-again i (length w - j) v z h (omega arith)))
    where
      back : (m : ℕ) × (m < length v) × (turn (length w - j) (turn i v) ≡ turn m v) → apart v w ≤ differing (turn i v) (turn j w)
      back (m, l, t) =
          let d = differing-turn (length w - j) (turn i v) (turn j w) (length-turn i v h ∙ e ∙ sym (length-turn j w k)) (rw (length-turn i v h) (omega arith)) in
          let f = rw (t, turn-back j w k) at d in
          omega (arith, apart-turn-le v w m l)

  -- two readings are not further apart than their home readings differ
  pub apart-home-le : apart v w ≤ differing (home v) (home w)
  apart-home-le =
      none_or_some (length v) (λ z. omega (arith, apart-le v w))
      (λ z. rw (home-turn-of v, home-turn-of w) (apart-turns-le (shift v) (shift w) (omega (arith, shift-lt v z)) (omega (arith, shift-lt w (omega arith)))))

-- readings of one length are no further apart the other way round
apart-sym-le : (v w : List ℕ) → length v ≡ length w → apart w v ≤ apart v w
apart-sym-le v w e = none_or_some (length v) (λ z. omega (arith, apart-le w v)) (λ z. at (apart-at v w z))
  where
    at : (i : ℕ) × (i < length v) × (differing (turn i v) w ≡ apart v w) → apart w v ≤ apart v w
    at (i, l, d) =
        let f = rw turn-zero at (apart-turns-le w v (sym e) 0 i (omega arith) (omega arith)) in
        omega (arith, differing-sym w (turn i v))

-- two readings of one length are as far apart the other way round
pub apart-sym : (v w : List ℕ) → length v ≡ length w → apart v w ≡ apart w v
apart-sym v w e = omega (arith, apart-sym-le v w e, apart-sym-le w v (sym e))

-- turning the first of two readings does not change how far apart they are
pub apart-of-turn : (v w : List ℕ) (i : ℕ) → length v ≡ length w → i ≤ length v → apart (turn i v) w ≡ apart v w
apart-of-turn v w i e h =
    none_or_some (length v) (λ z. omega (arith, apart-le v w, apart-le (turn i v) w, length-turn i v h))
    (λ z. omega (arith, one z (apart-at (turn i v) w (rw (length-turn i v h) z)), other z (apart-at v w z)))
  where
    one : 0 < length v → (j : ℕ) × (j < length (turn i v)) × (differing (turn j (turn i v)) w ≡ apart (turn i v) w) → apart v w ≤ apart (turn i v) w
    one z (j, l, d) = let t = turn-again i j v z h (omega (arith, length-turn i v h)) in let f = rw t.2 at d in omega (arith, apart-turn-le v w t.0 t.1)

    other : 0 < length v → (j : ℕ) × (j < length v) × (differing (turn j v) w ≡ apart v w) → apart (turn i v) w ≤ apart v w
    other z (j, l, d) =
        let t = turn-between i j v z h (omega arith) in
        let f = rw t.2 at (apart-turn-le (turn i v) w t.0 (rw (length-turn i v h) t.1)) in
        omega arith

-- nor does turning the second
pub apart-of-turn-right : (v w : List ℕ) (i : ℕ) → length v ≡ length w → i ≤ length w → apart v (turn i w) ≡ apart v w
apart-of-turn-right v w i e h =
    apart-sym v (turn i w) (e ∙ sym (length-turn i w h)) ∙ apart-of-turn w v i (sym e) h ∙ apart-sym w v (sym e)

-- two readings are no further apart than both are from a third together
pub apart-triangle : (u v w : List ℕ) → length u ≡ length v → length v ≡ length w → apart u w ≤ apart u v + apart v w
apart-triangle u v w e f =
    none_or_some (length u) (λ z. omega (arith, apart-le u w)) (λ z. at z (apart-at u v z) (apart-at v w (omega arith)))
  where
    at : 0 < length u → (i : ℕ) × (i < length u) × (differing (turn i u) v ≡ apart u v) → (j : ℕ) × (j < length v) × (differing (turn j v) w ≡ apart v w) → apart u w ≤ apart u v + apart v w
    at z (i, l, p) (j, k, q) =
        let t = turn-again i j u z (omega arith) (omega arith) in
        let long = length-turn i u (omega arith) in
        let d = differing-turn j (turn i u) v (long ∙ e) (omega arith) in
        let g = differing-triangle (turn j (turn i u)) (turn j v) w (length-turn j (turn i u) (omega arith) ∙ long ∙ e ∙ sym (length-turn j v (omega arith))) in
        let m = rw t.2 at g in
        omega (arith, rw t.2 at d, apart-turn-le u w t.0 t.1)

-- readings of one length that are 0 apart are of the same ring
pub apart-zero : (v w : List ℕ) → length v ≡ length w → apart v w ≡ 0 → same_ring v w ≡ true
apart-zero v w e h =
    none_or_some (length v) (λ z. rw (differing-zero v w e (omega (arith, differing-le v w))) (same-ring-refl w)) (λ z. at z (apart-at v w z))
  where
    at : 0 < length v → (i : ℕ) × (i < length v) × (differing (turn i v) w ≡ apart v w) → same_ring v w ≡ true
    at z (i, l, d) =
        let t = differing-zero (turn i v) w (length-turn i v (omega arith) ∙ e) (d ∙ h) in
        same-ring-sym v w ∙ turn-same-ring w v i z (omega arith) t

-- readings of one length that are of the same ring are 0 apart
pub zero-apart : (v w : List ℕ) → length v ≡ length w → same_ring v w ≡ true → apart v w ≡ 0
zero-apart v w e h =
    none_or_some (length v) (λ z. omega (arith, apart-le v w)) (λ z. at (same-ring-turn w v z (sym e) (same-ring-sym w v ∙ h)))
  where
    at : (i : ℕ) × (i < length v) × (turn i v ≡ w) → apart v w ≡ 0
    at (i, l, t) = omega (arith, apart-turn-le v w i l, ap (λ x. differing x w) t, differing-refl w)

-- ---- the ring seen from the other side

module _ (w : List ℕ) (z : 0 < length w) where
  turned_round : 0 < length (reverse w)
  turned_round = rw length-reverse z

  -- the ring seen from the other side has the length of the reading
  pub length-mirrored : length (mirrored w) ≡ length w
  unfolding mirrored
  length-mirrored = length-home (reverse w) turned_round ∙ length-reverse w

  -- the ring seen from the other side of a reading is a reading
  pub mirrored-reading : (n k : ℕ) → Reading n k w → Reading n k (mirrored w)
  unfolding mirrored
  mirrored-reading n k r = home-reading (reverse w) turned_round n k (reading-reverse n k w r)

  -- the ring seen from the other side is a necklace
  pub mirrored-necklace : necklace (mirrored w) ≡ true
  unfolding mirrored
  mirrored-necklace = home-necklace (reverse w) turned_round

  -- turning a reading does not change the ring seen from the other side
  pub mirrored-of-turn : (i : ℕ) → i ≤ length w → mirrored (turn i w) ≡ mirrored w
  unfolding mirrored
  mirrored-of-turn i h = ap home (reverse-turn i (length w - i) w (omega arith)) ∙ home-of-turn (reverse w) (length w - i) turned_round (rw length-reverse (omega arith))

  -- of an even-handed reading the other side is the ring
  pub even-mirrored : even_handed w ≡ true → mirrored w ≡ home w
  unfolding even_handed mirrored
  even-mirrored h = found (some_at (length w) (λ i. same (turn i (reverse w)) w) h)
    where
      found : (i : ℕ) × (i < length w) × (same (turn i (reverse w)) w ≡ true) → home (reverse w) ≡ home w
      found (i, l, e) = sym (turn-one-home w (reverse w) i turned_round (rw length-reverse (omega arith)) (same_true (turn i (reverse w)) w e))

  -- a reading whose other side is the ring is even-handed
  pub mirrored-even : mirrored w ≡ home w → even_handed w ≡ true
  unfolding even_handed mirrored
  mirrored-even h = found (one-home-turn w (reverse w) turned_round (sym (length-reverse w)) (sym h))
    where
      found : (i : ℕ) × (i < length (reverse w)) × (turn i (reverse w) ≡ w) → even_handed w ≡ true
      found (i, l, e) = some_of (length w) (λ i. same (turn i (reverse w)) w) i (rw length-reverse at l) (true_same (turn i (reverse w)) w e)

-- from the other side, the other side is the ring
pub mirrored-mirrored : (w : List ℕ) → 0 < length w → mirrored (mirrored w) ≡ home w
unfolding mirrored
mirrored-mirrored w z =
    ap mirrored (home-turn-of (reverse w)) ∙ mirrored-of-turn (reverse w) (turned_round w z) (shift (reverse w)) (omega (arith, shift-lt (reverse w) (turned_round w z))) ∙ ap home (reverse-reverse w)

-- turning a reading does not change whether it is even-handed
pub even-of-turn : (w : List ℕ) (i : ℕ) → 0 < length w → i ≤ length w → even_handed (turn i w) ≡ even_handed w
even-of-turn w i z h = agree (even_handed (turn i w)) (even_handed w) one other
  where
    long : 0 < length (turn i w)
    long = rw (length-turn i w h) z

    one : even_handed (turn i w) ≡ true → even_handed w ≡ true
    one e = mirrored-even w z (sym (mirrored-of-turn w z i h) ∙ even-mirrored (turn i w) long e ∙ home-of-turn w i z h)

    other : even_handed w ≡ true → even_handed (turn i w) ≡ true
    other e = mirrored-even (turn i w) long (mirrored-of-turn w z i h ∙ even-mirrored w z e ∙ sym (home-of-turn w i z h))

-- the home reading is even-handed where the reading is
pub even-home : (w : List ℕ) → 0 < length w → even_handed (home w) ≡ even_handed w
even-home w z = ap even_handed (home-turn-of w) ∙ even-of-turn w (shift w) z (omega (arith, shift-lt w z))
