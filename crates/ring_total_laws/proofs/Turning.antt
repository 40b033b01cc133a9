-- The turns of one reading, which are the readings of its ring, and of which necklace a reading is a turn.
--     turn-of, of-turn    the test `is_turn` of specs/Turns, as a fact
--     turns-differ        the turns by 0 to period - 1 are all different
--     turns-once          each turn is one of them, exactly once
--     turns-count         so a reading has as many turns as its period says
--     necklace-turn       a reading is a turn of a necklace exactly where that is its home reading
use Rattle.words.proofs.Plain.{ℕ, ◌+◌, ◌-◌, ◌%◌, ◌<◌, ◌≤◌, arith, ◌≡◌, sym, ap, ◌∙◌, true, false, List, length}
use native.Mathlib.Nat.{mul-one, mod-lt}
use Rattle.words.specs.{Order.same, Turn.turn}
use Rattle.words.specs.Readings.{Reading, readings, bit, count}
use Rattle.words.proofs.Split.{passes, fails, test, lt, eq, gt, tri, agree, clash}
use Rattle.words.proofs.{Search.some_of, Search.some_at, Readings.readings-all}
use Rattle.words.proofs.Lex.{same_true, true_same, same_false}
use Rattle.words.proofs.Turn.{turn-turn, turn-back, turn-length, reading-turn}
use Rattle.words.proofs.Count.{sum_below, sum-cong, sum_one, sum-zero, total-cong, count-one}
use Rattle.rings.specs.{Necklace.necklace, Necklace.period, Home.home}
use Rattle.ring_home_laws.proofs.Period.{period-pos, period-le, period-turn, period-smallest, rest-turn}
use Rattle.ring_home_laws.proofs.Home.{necklace-home, one-home-turn, turn-one-home}
use Rattle.ring_total_laws.specs.Turns.{is_turn}
use Rattle.ring_total_laws.proofs.Totals.{below-const, total-below}

-- ---- the test

-- where the test passes, some number of turns below the length gives w
pub turn-of : (v w : List ℕ) → is_turn v w ≡ true → (i : ℕ) × (i < length v) × (turn i v ≡ w)
unfolding is_turn
turn-of v w h = go (some_at (length v) (λ i. same (turn i v) w) h)
  where
    go : (i : ℕ) × (i < length v) × (same (turn i v) w ≡ true) → (i : ℕ) × (i < length v) × (turn i v ≡ w)
    go (i, l, e) = (i, l, same_true (turn i v) w e)

-- where some number of turns below the length gives w, the test passes
pub of-turn : (v w : List ℕ) (i : ℕ) → i < length v → turn i v ≡ w → is_turn v w ≡ true
unfolding is_turn
of-turn v w i l e = some_of (length v) (λ i. same (turn i v) w) i l (true_same (turn i v) w e)

-- ---- how many turns there are

module _ (v : List ℕ) (z : 0 < length v) where
  -- the turns by 0 to period - 1 are all different
  pub turns-differ : (i j : ℕ) → i < j → j < period v → turn i v ≡ turn j v → ⊥
  turns-differ i j l b e = omega (arith, period-smallest v z (j - i) (omega arith) less)
    where
      fits : j ≤ length v
      fits = omega (arith, period-le v z)

      -- turned on until the turn by j is v again, the turn by i is v too
      more : turn (i + (length v - j)) v ≡ v
      more = sym (turn-turn i (length v - j) v (omega (arith, fits))) ∙ ap (turn (length v - j)) e ∙ turn-back j v fits

      -- so what is left up to the length changes nothing
      less : turn (j - i) v ≡ v
      less =
          let q : i + (length v - j) + (j - i) ≡ length v = omega (arith, fits) in
          ap (turn (j - i)) (sym more) ∙ turn-turn (i + (length v - j)) (j - i) v (omega arith) ∙ ap (λ (x : ℕ). turn x v) q ∙ turn-length v

  -- each turn is one of them, exactly once
  pub turns-once : (w : List ℕ) → bit (is_turn v w) ≡ sum_below (period v) (λ i. bit (same (turn i v) w))
  turns-once w = elim (test (is_turn v w)) [ passes e ↦ rw e (sym (one (turn-of v w e))) | fails e ↦ rw e (sym (none e)) ]
    where
      none : is_turn v w ≡ false → sum_below (period v) (λ i. bit (same (turn i v) w)) ≡ 0
      none e =
          sum-zero (period v) (λ i. bit (same (turn i v) w))
          (λ i l. rw (same_false (turn i v) w (λ q. clash (is_turn v w) (of-turn v w i (omega (arith, period-le v z)) q) e)))

      one : (i : ℕ) × (i < length v) × (turn i v ≡ w) → sum_below (period v) (λ i. bit (same (turn i v) w)) ≡ 1
      one (i, l, e) =
          sum_one (period v) (λ i. bit (same (turn i v) w)) (i % period v) (mod-lt i (period-pos v)) (λ j b n. rw (same_false (turn j v) w (λ q. apart j b n (here ∙ sym q))))
          ∙ rw (true_same (turn (i % period v) v) w here)
        where
          here : turn (i % period v) v ≡ w
          here = rest-turn v (period v) (period-turn v z) i (omega arith) ∙ e

          apart : (j : ℕ) → j < period v → (i % period v ≡ j → ⊥) → turn (i % period v) v ≡ turn j v → ⊥
          apart j b n q =
              elim (tri (i % period v) j) [ lt y ↦ turns-differ (i % period v) j y b q | eq y ↦ n y | gt y ↦ turns-differ j (i % period v) y (mod-lt i (period-pos v)) (sym q) ]

  -- a reading has as many turns as its period says
  pub turns-count : (n k : ℕ) → Reading n k v → count (is_turn v) (readings n k) ≡ period v
  turns-count n k r =
      total-cong (λ w. bit (is_turn v w)) (λ w. sum_below (period v) (λ i. bit (same (turn i v) w))) (readings n k) (λ w q. turns-once w) (readings-all n k)
      ∙ total-below (period v) (λ i w. bit (same (turn i v) w)) (readings n k)
      ∙ sum-cong (period v) (λ i. count (same (turn i v)) (readings n k)) (λ i. 1) once
      ∙ below-const (period v) 1
      ∙ mul-one (period v)
    where
      once : (i : ℕ) → i < period v → count (same (turn i v)) (readings n k) ≡ 1
      once i l = count-one n k (turn i v) (reading-turn n k v r i (omega (arith, period-le v z, r.long)))

-- ---- of which necklace

-- a reading is a turn of a necklace exactly where that is its home reading
pub necklace-turn : (v w : List ℕ) → 0 < length v → length w ≡ length v → necklace v ≡ true → is_turn v w ≡ same (home w) v
necklace-turn v w z e h =
    agree (is_turn v w) (same (home w) v) (λ q. there (turn-of v w q)) (λ q. back (one-home-turn w v z e (same_true (home w) v q ∙ sym (necklace-home v z h))))
  where
    there : (i : ℕ) × (i < length v) × (turn i v ≡ w) → same (home w) v ≡ true
    there (i, l, t) = true_same (home w) v (turn-one-home w v i z (omega arith) t ∙ necklace-home v z h)

    back : (i : ℕ) × (i < length v) × (turn i v ≡ w) → is_turn v w ≡ true
    back (i, l, t) = of-turn v w i l t
