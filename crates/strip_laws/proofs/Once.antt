-- Joined end to start, each reading stands at exactly one place of the strip (02, request l), for every n of at least 1 and k of at least 2. Each stands at one
-- at least (Found), and there are as many places as readings: counted twice, so that each stands at one.
--     window-reading     a window of the strip is a reading
--     once               each reading of n and k stands at exactly one place of the strip
--     one_place          that place, and no other
--     window-place       n neighbouring sectors tell their place
use Rattle.words.proofs.Plain.{ℕ, zero, suc, ◌+◌, ◌%◌, ◌^◌, ◌≤◌, ◌<◌, arith, ◌≡◌, refl, sym, ap, subst, ◌∙◌, Bool, true, List, [], ◌∷◌, length, get_or}
use native.Mathlib.Nat.{mul-one, mod-lt}
use Rattle.words.specs.Order.{same}
use Rattle.words.specs.Readings.{Reading, readings, bit, total, count}
use Rattle.words.proofs.Split.{lt, eq, gt, tri}
use Rattle.words.proofs.{Search.length-tab, Search.get_d-tab, Lex.true_same}
use Rattle.words.proofs.Readings.{All, nothing, also, all-weaken, readings-all, each-reading}
use Rattle.words.proofs.Count.{sum_below, sum-cong, count-one}
use Rattle.ring_total_laws.proofs.Totals.{below-const, total-below, readings-size}
use Rattle.strip_spec.specs.Strip.{strip}
use Rattle.word_list_spec.specs.Passing.{count_below}
use Rattle.strip_spec.specs.Places.{window, occurrences, OnceEach, OnePlace}
use Rattle.strip_laws.proofs.{Pieces.length-strip, Pieces.strip-shades, Found.placed}

-- ---- sums and totals that are as small as they can be

-- a sum is not below one of its values
sum-hit : (m : ℕ) (g : ℕ → ℕ) (p : ℕ) → p < m → g p ≤ sum_below m g
unfolding sum_below
sum-hit zero g p h = absurd (omega arith)
sum-hit (suc m) g p h = elim (tri p m) [ lt l ↦ omega (arith, sum-hit m g p l) | eq l ↦ omega (arith, ap g l) | gt l ↦ absurd (omega arith) ]

-- nor below two of them
sum-two : (m : ℕ) (g : ℕ → ℕ) (p q : ℕ) → p < q → q < m → g p + g q ≤ sum_below m g
unfolding sum_below
sum-two zero g p q h l = absurd (omega arith)
sum-two (suc m) g p q h l = elim (tri q m) [ lt e ↦ omega (arith, sum-two m g p q h e) | eq e ↦ omega (arith, sum-hit m g p (omega arith), ap g e) | gt e ↦ absurd (omega arith) ]

-- how many numbers pass, as a sum
count-sum : (m : ℕ) (f : ℕ → Bool) → count_below m f ≡ sum_below m (λ i. bit (f i))
unfolding count_below sum_below
count-sum zero f = refl
count-sum (suc m) f = omega (arith, count-sum m f)

-- values of at least 1 have at least as great a total as there are words
total-least : (f : List ℕ → ℕ) (ws : List (List ℕ)) → All (λ w. 1 ≤ f w) ws → count (λ w. true) ws ≤ total f ws
unfolding total
total-least f [] nothing = omega arith
total-least f (w ∷ ws) (also p ps) = omega (arith, total-least f ws ps)

-- and are all 1 where it is no greater
total-tight : (f : List ℕ → ℕ) (ws : List (List ℕ)) → All (λ w. 1 ≤ f w) ws → total f ws ≡ count (λ w. true) ws → All (λ w. f w ≡ 1) ws
unfolding total
total-tight f [] nothing e = nothing
total-tight f (w ∷ ws) (also p ps) e = also {w = w} (omega (arith, total-least f ws ps)) (total-tight f ws ps (omega (arith, total-least f ws ps)))

-- ---- windows

-- a window of sectors that are shades is a reading
pub window-reading : (n k : ℕ) (s : List ℕ) → 0 < length s → ((i : ℕ) → i < length s → get_or s i 0 < k) → (p : ℕ) → Reading n k (window n s p)
unfolding window
window-reading n k s z f p =
    record { long = length-tab n (λ h. get_or s ((p + h) % length s) 0); shades = λ i h. rw (get_d-tab n (λ h. get_or s ((p + h) % length s) 0) i 0 h) (f ((p + i) % length s) (mod-lt (p + i) z)) }

-- ---- exactly once

module _ (n t : ℕ) (z : 0 < n) (y : 0 < t) where
  -- at how many places w stands
  hits : List ℕ → ℕ
  hits w = sum_below (length (strip n (suc t))) (λ p. bit (same (window n (strip n (suc t)) p) w))

  at_least : (w : List ℕ) → Reading n (suc t) w → 1 ≤ hits w
  unfolding hits
  at_least w r =
      let q = placed n t z y w r in
      omega (
        arith,
        sum-hit (length (strip n (suc t))) (λ p. bit (same (window n (strip n (suc t)) p) w)) q.0 q.1,
        ap bit (true_same (window n (strip n (suc t)) q.0) w q.2),
      )

  size : length (strip n (suc t)) ≡ suc t ^ n
  size = length-strip n (suc t) z (omega arith)

  all-hits : total hits (readings n (suc t)) ≡ count (λ w. true) (readings n (suc t))
  unfolding hits
  all-hits =
      total-below (length (strip n (suc t))) (λ p w. bit (same (window n (strip n (suc t)) p) w)) (readings n (suc t))
      ∙ sum-cong (length (strip n (suc t))) (λ p. count (same (window n (strip n (suc t)) p)) (readings n (suc t))) (λ p. 1) one-reading
      ∙ below-const (length (strip n (suc t))) 1
      ∙ mul-one (length (strip n (suc t)))
      ∙ size
      ∙ sym (readings-size n (suc t))
    where
      one-reading : (p : ℕ) → p < length (strip n (suc t)) → count (same (window n (strip n (suc t)) p)) (readings n (suc t)) ≡ 1
      one-reading p h = count-one n (suc t) (window n (strip n (suc t)) p) (window-reading n (suc t) (strip n (suc t)) (omega arith) (strip-shades n (suc t) z (omega arith)) p)

  each-once : (w : List ℕ) → Reading n (suc t) w → hits w ≡ 1
  each-once = each-reading n (suc t) (total-tight hits (readings n (suc t)) (all-weaken at_least (readings-all n (suc t))) all-hits)

-- each reading of n and k stands at exactly one place of the strip
pub once : (n k : ℕ) → 0 < n → 2 ≤ k → OnceEach n k (strip n k)
unfolding occurrences hits
once n zero z y w r = absurd (omega arith)
once n (suc t) z y w r =
    rw r.long (count-sum (length (strip n (suc t))) (λ p. same (window n (strip n (suc t)) p) w) ∙ each-once n t z (omega arith) w r)

-- there is a place where it stands, and it stands at no other
pub one_place : (n k : ℕ) → 0 < n → 2 ≤ k → (w : List ℕ) → Reading n k w → (p : ℕ) × OnePlace (strip n k) w p
unfolding hits
one_place n zero z y w r = absurd (omega arith)
one_place n (suc t) z y w r = go (placed n t z (omega arith) w r)
  where
    g : ℕ → ℕ
    g p = bit (same (window n (strip n (suc t)) p) w)

    one : sum_below (length (strip n (suc t))) g ≡ 1
    one = each-once n t z (omega arith) w r

    hit : (p : ℕ) → window n (strip n (suc t)) p ≡ w → g p ≡ 1
    hit p e = ap bit (true_same (window n (strip n (suc t)) p) w e)

    go : (p : ℕ) × (p < length (strip n (suc t))) × (window n (strip n (suc t)) p ≡ w) → (p : ℕ) × OnePlace (strip n (suc t)) w p
    go (p, l, e) = (p, record { within = l; stands = rw r.long e; only = λ q b f. other q b (rw r.long at f) })
      where
        other : (q : ℕ) → q < length (strip n (suc t)) → window n (strip n (suc t)) q ≡ w → q ≡ p
        other q b f =
            elim (tri q p) [
              | lt c ↦ absurd (omega (arith, sum-two (length (strip n (suc t))) g q p c l, one, hit p e, hit q f))
              | eq c ↦ c
              | gt c ↦ absurd (omega (arith, sum-two (length (strip n (suc t))) g p q c b, one, hit p e, hit q f))
            ]

-- n neighbouring sectors of the strip tell their place
pub window-place : (n k : ℕ) → 0 < n → 2 ≤ k → (p : ℕ) → p < length (strip n k) → OnePlace (strip n k) (window n (strip n k) p) p
window-place n k z y p b = go (one_place n k z y w r)
  where
    w : List ℕ
    w = window n (strip n k) p

    r : Reading n k w
    r = window-reading n k (strip n k) (omega arith) (strip-shades n k z (omega arith)) p

    go : (q : ℕ) × OnePlace (strip n k) w q → OnePlace (strip n k) w p
    go (q, o) = subst (OnePlace (strip n k) w) (sym (o.only p b (rw r.long refl))) o
