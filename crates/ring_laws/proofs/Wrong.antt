-- Where a reading goes wrong (02, b): the first sector whose beginning, up to and including it, is no prenecklace. The scan of 000, Theorem 2.1, stops there.
--     take-pre, pre-take    a beginning is a prenecklace, and Pre of its sectors
--     beginning-pre         a beginning of a prenecklace is one
--     not-mended            what is no prenecklace begins none: no later sector mends it
--     wrong-within, wrong-before, wrong-here, wrong-after, wrong-on    the place in a reading that is no prenecklace: it is one of its places; every shorter
--                           beginning is a prenecklace; the one up to and including it is none; no longer one is; nor would be, whatever sectors followed
--     wrong-pos             it is never 0: one sector alone is a prenecklace
--     wrong-is              it is where the run of the sectors breaks
use Rattle.words.proofs.Plain.{ℕ, zero, suc, ◌-◌, ◌<◌, ◌≤◌, arith, ◌≡◌, refl, sym, ap, ◌∙◌, Bool, true, false, not, List, ◌++◌, length, get_or, take}
use Rattle.words.proofs.Plain.{length-append, List·get_d-append, length-take-le, get_or-take, take_all}
use Rattle.words.proofs.Split.{refuted, clash, lt, eq, gt, tri}
use Rattle.words.proofs.Search.{least_at, least-none, least-is, least_lt}
use Rattle.words.proofs.Sequence.{sec}
use Rattle.rings.specs.Prenecklace.{prenecklace, wrong_at, wrong_place}
use Rattle.ring_laws.proofs.Run.{Pre, Run, lyn-self, lyn-one, smaller, run-pre, pre-shorter, pre-through}
use Rattle.ring_laws.proofs.Words.{pre-of, of-pre}

-- ---- beginnings

module _ (w : List ℕ) (i : ℕ) (b : i ≤ length w) where
  pub take-pre : prenecklace (take i w) ≡ true → Pre (sec w) i
  take-pre h = pre-through (sec (take i w)) (sec w) i (λ m l. get_or-take i w m 0 l) (rw (length-take-le i w b) at (pre-of (take i w) h))

  pub pre-take : Pre (sec w) i → prenecklace (take i w) ≡ true
  pre-take pre = of-pre (take i w) (rw (length-take-le i w b) (pre-through (sec w) (sec (take i w)) i (λ m l. sym (get_or-take i w m 0 l)) pre))

-- a beginning of a prenecklace is one
pub beginning-pre : (w v : List ℕ) → prenecklace (w ++ v) ≡ true → prenecklace w ≡ true
beginning-pre w v h =
    of-pre w (pre-through (sec (w ++ v)) (sec w) (length w) (λ m l. List·get_d-append w v 0 m l)
    (pre-shorter (sec (w ++ v)) (length (w ++ v)) (length w) (omega (arith, length-append w v)) (pre-of (w ++ v) h)))

-- what is no prenecklace begins none, whatever follows
pub not-mended : (w v : List ℕ) → prenecklace w ≡ false → prenecklace (w ++ v) ≡ false
not-mended w v h = refuted (prenecklace (w ++ v)) (λ p. clash (prenecklace w) (beginning-pre w v p) h)

-- ---- the place

-- a test, and its contrary
not-true : (b : Bool) → not b ≡ true → b ≡ false
not-true true e = sym e
not-true false e = refl

not-false : (b : Bool) → not b ≡ false → b ≡ true
not-false true e = refl
not-false false e = sym e

-- the place by what is so before it and at it
pub wrong-at : (w : List ℕ) (e : ℕ) → e < length w → Pre (sec w) e → (Pre (sec w) (suc e) → ⊥) → wrong_place w ≡ e
unfolding wrong_place wrong_at
wrong-at w e b pre broken =
    least-is (length w) (wrong_at w) e b (ap not (refuted (prenecklace (take (suc e) w)) (λ h. broken (take-pre w (suc e) b h))))
    (λ j h. ap not (pre-take w (suc j) (omega arith) (pre-shorter (sec w) e (suc j) h pre)))

-- it is where the run of the sectors breaks (000, Theorem 2.1)
pub wrong-is : (w : List ℕ) (e p : ℕ) → Run (sec w) e p → e < length w → sec w e < sec w (e - p) → wrong_place w ≡ e
wrong-is w e p r b h = wrong-at w e b (run-pre (sec w) e p r) (λ pre. pre p (smaller (sec w) e p r h))

module _ (w : List ℕ) (loose : prenecklace w ≡ false) where
  -- it is a place of the reading
  pub wrong-within : wrong_place w < length w
  unfolding wrong_place wrong_at
  wrong-within = go (length w) refl
    where
      last : (m : ℕ) → length w ≡ suc m → wrong_at w m ≡ true
      last m e = rw (take_all (suc m) w (omega arith)) (ap not loose)

      go : (n : ℕ) → length w ≡ n → wrong_place w < length w
      go zero e = clash (prenecklace w) (of-pre w (rw e (λ i l. omega (arith, l.bound)))) loose
      go (suc m) e = least_lt (length w) (wrong_at w) m (omega arith) (last m e)

  -- every shorter beginning is a prenecklace
  pub wrong-before : (i : ℕ) → i ≤ wrong_place w → prenecklace (take i w) ≡ true
  unfolding wrong_place wrong_at
  wrong-before zero h = pre-take w 0 (omega arith) (λ i l. omega (arith, l.bound))
  wrong-before (suc i) h = not-false (prenecklace (take (suc i) w)) (least-none (length w) (wrong_at w) i h)

  -- the one up to and including it is none
  pub wrong-here : prenecklace (take (suc (wrong_place w)) w) ≡ false
  unfolding wrong_place wrong_at
  wrong-here = not-true (prenecklace (take (suc (wrong_place w)) w)) (least_at (length w) (wrong_at w) wrong-within)

  -- nor is any longer one
  pub wrong-after : (i : ℕ) → wrong_place w < i → i ≤ length w → prenecklace (take i w) ≡ false
  wrong-after i h b =
      refuted (prenecklace (take i w))
      (λ q. clash (prenecklace (take (suc (wrong_place w)) w)) (pre-take w (suc (wrong_place w)) wrong-within (pre-shorter (sec w) i (suc (wrong_place w)) h (take-pre w i b q))) wrong-here)

  -- and no other sectors that might follow mend it
  pub wrong-on : (v : List ℕ) → prenecklace (take (suc (wrong_place w)) w ++ v) ≡ false
  wrong-on v = not-mended (take (suc (wrong_place w)) w) v wrong-here

  -- it is never 0: one sector alone is a prenecklace
  pub wrong-pos : 0 < wrong_place w
  wrong-pos =
      elim (tri 0 (wrong_place w)) [
        | lt h ↦ h
        | eq h ↦ clash (prenecklace (take 1 w)) one (ap (λ (x : ℕ). prenecklace (take (suc x) w)) h ∙ wrong-here)
        | gt h ↦ absurd (omega arith)
      ]
    where
      one : prenecklace (take 1 w) ≡ true
      one = pre-take w 1 (omega (arith, wrong-within)) (run-pre (sec w) 1 1 (lyn-self (sec w) 1 (omega arith) (lyn-one (sec w))))
