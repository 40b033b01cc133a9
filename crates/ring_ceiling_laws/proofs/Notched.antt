-- The rings with two notches (specs/Notched), for k of at least 2.
--     notch-at, notch-else, notch-low     k - 2 at the places 0 and p, k - 1 at every other
--     notch-run           up to twice p sectors they are a run of p
--     notched-of          each is a prenecklace of n and k
--     notched-low         its last place that can be raised is the second notch
--     notch-next          its next prenecklace is the one notched a place later, where at most 2 p + 2 sectors are
use Rattle.words.proofs.Plain.{ℕ, suc, ◌+◌, ◌-◌, ◌%◌, ◌<◌, ◌≤◌, arith, ◌≡◌, refl, sym, ◌∙◌, ◌||◌, eqb, length, get_or, ext_get_or, eq-eqb, ne_eqb}
use native.Mathlib.Nat.{mod-lt}
use Rattle.words.proofs.Split.{lt, eq, gt, tri, passes, fails, test, either-right}
use Rattle.words.proofs.{Search.length-tab, Search.get_d-tab, Sequence.sec, Sequence.place}
use Rattle.rings.specs.Next.{last_low, next_prenecklace, raised}
use Rattle.ring_laws.proofs.Run.{Pre, Run, pre-through, run-through}
use Rattle.ring_laws.proofs.{Repeat.run_rep, Words.of-pre}
use Rattle.ring_laws.proofs.Next.{low-le, low-at, low-none, length-next, next-at, raised-low, raised-last, place-raised}
use Rattle.ring_ceiling_laws.specs.{Ceiling.PrenecklaceOf, Notched.notch, Notched.notched}

-- ---- as a sequence

module _ (k p : ℕ) where
  -- the first sector is notched
  notch-zero : notch k p 0 ≡ k - 2
  unfolding notch
  notch-zero = refl

  -- so is the one at p
  notch-at : (i : ℕ) → i ≡ p → notch k p i ≡ k - 2
  unfolding notch
  notch-at i e = rw (either-right (eqb i 0) (eqb i p) (eq-eqb i p e), notch) refl

  -- no other is
  notch-else : (i : ℕ) → 0 < i → (i ≡ p → ⊥) → notch k p i ≡ k - 1
  unfolding notch
  notch-else i z h = rw (ne_eqb i 0 (λ q. omega arith), ne_eqb i p h, notch) refl

  -- there are only these two shades
  notch-between : (i : ℕ) → (k - 2 ≤ notch k p i) × (notch k p i ≤ k - 1)
  unfolding notch
  notch-between i = elim (test (eqb i 0 || eqb i p)) [ passes e ↦ rw (e, notch) (omega arith, omega arith) | fails e ↦ rw (e, notch) (omega arith, omega arith) ]

  -- behind the first place only p is low
  notch-low : 2 ≤ k → (i : ℕ) → 0 < i → notch k p i ≡ k - 2 → i ≡ p
  notch-low two i z e =
      elim (tri i p) [
        | lt l ↦ absurd (omega (arith, notch-else i z (λ q. omega arith)))
        | eq l ↦ l
        | gt l ↦ absurd (omega (arith, notch-else i z (λ q. omega arith)))
      ]

-- no ending falls below the beginning: it starts low at 0 or at p alone, and is not low again
notch-pre : (k n p : ℕ) → 2 ≤ k → Pre (notch k p) n
notch-pre k n p two i l =
    elim (tri 0 i) [
      | lt h ↦ elim (tri 0 l.at) [
        | lt m ↦ omega (arith, m, notch-low k p two (i + l.at) (omega arith) low, notch-low k p two (i + 0) (omega arith) (l.agree 0 m ∙ notch-zero k p))
        | eq m ↦ omega (arith, l.less, (notch-between k p (i + l.at)).0, notch-zero k p, place (notch k p) 0 l.at m)
        | gt m ↦ omega arith
      ]
      | eq h ↦ omega (arith, l.less, place (notch k p) (i + l.at) l.at (omega arith))
      | gt h ↦ omega arith
    ]
  where
    low : notch k p (i + l.at) ≡ k - 2
    low = omega (arith, l.less, (notch-between k p (i + l.at)).0, (notch-between k p l.at).1)

-- the first p are a Lyndon word, low at its first place alone; up to twice p they are repeated
notch-run : (k n p : ℕ) → 2 ≤ k → 0 < p → p ≤ n → n ≤ p + p → Run (notch k p) n p
notch-run k n p two z h b =
    record {
      pos = z;
      fits = h;
      again = again;
      lyn = λ i y l. record {
        at = 0;
        bound = omega arith;
        agree = λ m x. absurd (omega arith);
        less = omega (arith, notch-zero k p, notch-else k p (i + 0) (omega arith) (λ x. omega arith));
      };
    }
  where
    again : (i j : ℕ) → p + j ≡ i → i < n → notch k p i ≡ notch k p j
    again i j e l =
        elim (tri 0 j) [
          | lt y ↦ notch-else k p i (omega arith) (λ x. omega arith) ∙ sym (notch-else k p j y (λ x. omega arith))
          | eq y ↦ notch-at k p i (omega arith) ∙ sym (notch-zero k p) ∙ place (notch k p) 0 j y
          | gt y ↦ absurd (omega arith)
        ]

-- ---- as a list

-- there are n sectors
pub length-notched : (k n p : ℕ) → length (notched k n p) ≡ n
unfolding notched
length-notched k n p = length-tab n (notch k p)

-- each is that of the sequence
notched-at : (k n p i : ℕ) → i < n → get_or (notched k n p) i 0 ≡ notch k p i
unfolding notched
notched-at k n p i h = get_d-tab n (notch k p) i 0 h

module _ (k n p : ℕ) (two : 2 ≤ k) where
  -- each is a prenecklace
  pub notched-of : 0 < n → PrenecklaceOf n k (notched k n p)
  notched-of z =
      record {
        pos = z;
        reading = record { long = length-notched k n p; shades = λ i h. omega (arith, notched-at k n p i h, (notch-between k p i).1) };
        pre = of-pre (notched k n p) (rw (length-notched k n p) (pre-through (notch k p) (sec (notched k n p)) n (λ m h. sym (notched-at k n p m h)) (notch-pre k n p two)));
      }

  -- a run of p, where n is at most twice p
  pub notched-run : 0 < p → p ≤ n → n ≤ p + p → Run (sec (notched k n p)) (length (notched k n p)) p
  notched-run z h b =
      rw (length-notched k n p) (run-through (notch k p) (sec (notched k n p)) n p (λ m l. sym (notched-at k n p m l)) (notch-run k n p two z h b))

  -- the last place that can be raised
  pub notched-low : p < n → last_low k (notched k n p) ≡ suc p
  notched-low h =
      elim (tri (last_low k (notched k n p)) (suc p)) [
        | lt l ↦ absurd (omega (arith, low-none k (notched k n p) p (omega arith) (omega (arith, length-notched k n p)), notched-at k n p p h, notch-at k p p refl))
        | eq l ↦ l
        | gt l ↦ absurd (past (last_low k (notched k n p) - 1) (omega arith) (omega (arith, low-le k (notched k n p), length-notched k n p)) (low-at k (notched k n p) (omega arith)))
      ]
    where
      past : (i : ℕ) → p < i → i < n → suc (get_or (notched k n p) i 0) < k → ⊥
      past i l b s = omega (arith, notched-at k n p i b, notch-else k p i (omega arith) (λ q. omega arith))

-- ---- the next prenecklace

module _ (k n p : ℕ) (two : 2 ≤ k) (z : 0 < p) (h : p < n) (b : n ≤ p + p + 2) where
  -- the place that is raised is the second notch
  low : last_low k (notched k n p) ≡ suc p
  low = notched-low k n p two h

  -- so there is one
  pub has-low : 0 < last_low k (notched k n p)
  has-low = omega (arith, low)

  -- the first p + 1 sectors, the last of them raised, are those of the ring notched a place later
  raised-notch : (q : ℕ) → q < suc p → get_or (raised (suc p) (notched k n p)) q 0 ≡ notch k (suc p) q
  raised-notch q l =
      elim (tri q p) [
        | lt e ↦ raised-low (suc p) (notched k n p) q (omega (arith, length-notched k n p)) (omega arith) ∙ notched-at k n p q (omega arith) ∙ early e
        | eq e ↦ rw e last
        | gt e ↦ absurd (omega arith)
      ]
    where
      early : q < p → notch k p q ≡ notch k (suc p) q
      early e =
          elim (tri 0 q) [
            | lt y ↦ notch-else k p q y (λ x. omega arith) ∙ sym (notch-else k (suc p) q y (λ x. omega arith))
            | eq y ↦ rw (← y) (notch-zero k p ∙ sym (notch-zero k (suc p)))
            | gt y ↦ absurd (omega arith)
          ]

      last : get_or (raised (suc p) (notched k n p)) p 0 ≡ notch k (suc p) p
      last =
          let e : suc p - 1 ≡ p = omega arith in
          let r = rw e at (raised-last (suc p) (notched k n p) (omega (arith, length-notched k n p))) in
          omega (arith, r, notched-at k n p p h, notch-at k p p refl, notch-else k (suc p) p z (λ x. omega arith))

  -- the sectors of the next prenecklace: those, repeated
  next-sector : (m : ℕ) → m < n → get_or (next_prenecklace k (notched k n p)) m 0 ≡ notch k (suc p) m
  next-sector m l =
      sym (next-at k (notched k n p) has-low m (omega (arith, length-notched k n p)))
      ∙ rw (place-raised k (notched k n p) has-low ∙ low, low) (raised-notch (m % suc p) (mod-lt m (omega arith)))
      ∙ sym (run_rep (notch k (suc p)) n (suc p) (notch-run k n (suc p) two (omega arith) h (omega arith)) m l)

  -- the next prenecklace is notched a place later
  pub notch-next : next_prenecklace k (notched k n p) ≡ notched k n (suc p)
  notch-next =
      ext_get_or 0 (next_prenecklace k (notched k n p)) (notched k n (suc p)) (long ∙ sym (length-notched k n (suc p)))
      (λ m l. next-sector m (rw long at l) ∙ sym (notched-at k n (suc p) m (rw long at l)))
    where
      long : length (next_prenecklace k (notched k n p)) ≡ n
      long = length-next k (notched k n p) ∙ length-notched k n p
