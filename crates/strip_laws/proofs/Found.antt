-- Each reading is found on the strip. t is the highest shade, k = t + 1.
--     whole     the whole strip is built
--     found     each reading stands inside the strip or round its end
--     placed    so it is a window of it
use Rattle.words.proofs.Plain.{ℕ, suc, ◌+◌, ◌-◌, ◌%◌, ◌≤◌, ◌<◌, arith, dec_lt, ◌≡◌, refl, sym, ap, subst, ◌∙◌, true, List, length, get_or, ext_get_or}
use native.Mathlib.Nat.{mod-eq_of_lt, add-mod_left}
use Rattle.words.specs.{Search.tab, Order.up_to, Turn.turn, Readings.Reading}
use Rattle.words.proofs.{Search.length-tab, Search.get_d-tab, Sequence.sec, Lex.not-less-up_to}
use Rattle.rings.specs.{Necklace.necklace, Necklace.period, Home.home}
use Rattle.ring_laws.proofs.{Repeat.Turned, Words.turned}
use Rattle.ring_laws.proofs.FullWalk.{zeros, zeros-at, zeros-reading, zeros-necklace, length-zeros, walk-exists}
use Rattle.ring_home_laws.proofs.Period.{period-pos, period-le}
use Rattle.ring_home_laws.proofs.Home.{home-reading, home-necklace, home-home, one-home-turn}
use Rattle.ring_total_laws.proofs.OneRing.{Ring}
use Rattle.strip_spec.specs.{Strip.strip, Places.window}
use Rattle.strip_laws.proofs.Around.{Found, begins, ends, settle}
use Rattle.strip_laws.proofs.Pieces.{period-round, strip-walk}
use Rattle.strip_laws.proofs.Built.{only-top, Built, build}

module _ (n t : ℕ) (z : 0 < n) (y : 0 < t) where
  -- the whole strip
  pub whole : Built n t z (zeros n) (strip n (suc t))
  whole =
      let f = walk-exists necklace (suc t) (zeros n) in
      subst (Built n t z (zeros n)) (sym (strip-walk n (suc t) z (omega arith) f.0 f.1 f.2))
      (build n t z f.2 (zeros-reading n (suc t) (omega arith), zeros-necklace n) (omega (arith, zeros-at n 0)))

  -- nothing is below the all-zero ring
  first : (v : List ℕ) → Reading n (suc t) v → up_to (zeros n) v ≡ true
  first v r = not-less-up_to (zeros n) v (length-zeros n ∙ sym r.long) (λ l. omega (arith, l.less, zeros-at n l.at))

  pub found : (w : List ℕ) → Reading n (suc t) w → Found n t (sec (zeros n)) (sec (strip n (suc t))) (length (strip n (suc t))) (sec w)
  found w r =
      elim (dec_lt (sec (home w) 0) t) [
        | yes c ↦ let q = settle (period-pos (home w)) fit round n u.0 (omega arith) u.1 u.2 in whole.find (home w) ring c (first (home w) ring.0) (sec w) q.0 q.1 q.2 q.3
        | no c ↦ Found.around 0 z (λ h b. all-t c h (omega arith)) (λ h g e b. absurd (omega arith))
      ]
    where
      zw : 0 < length w
      zw = omega (arith, r.long)

      ring : Ring n (suc t) (home w)
      ring = (home-reading w zw n (suc t) r, home-necklace w zw)

      fit : period (home w) ≤ n
      fit = omega (arith, period-le (home w) (omega (arith, ring.0.long)), ring.0.long)

      round : Turned (sec (home w)) n (period (home w)) (sec (home w))
      round = period-round n (home w) z ring.0.long

      -- w is a turn of its home reading
      back : (i : ℕ) × (i < length (home w)) × (turn i (home w) ≡ w) → (i : ℕ) × (i < n) × Turned (sec (home w)) n i (sec w)
      back (i, l, e) = (i, omega (arith, ring.0.long), rw (e, ring.0.long) at (turned (home w) i (omega arith)))

      u : (i : ℕ) × (i < n) × Turned (sec (home w)) n i (sec w)
      u = back (one-home-turn w (home w) (omega (arith, ring.0.long)) (r.long ∙ sym ring.0.long) (sym (home-home w zw)))

      all-t : ¬ (sec (home w) 0 < t) → (h : ℕ) → h < n → sec w h ≡ t
      all-t c h b =
          elim (dec_lt (u.0 + h) n) [
            | yes d ↦ u.2.low h (u.0 + h) refl d ∙ only-top n t z (home w) ring c (u.0 + h) d
            | no d ↦ u.2.high h (u.0 + h - n) (omega arith) b ∙ only-top n t z (home w) ring c (u.0 + h - n) (omega (arith, u.1))
          ]

  -- joined end to start, w stands at a place below the strip's length
  pub placed : (w : List ℕ) → Reading n (suc t) w → (p : ℕ) × (p < length (strip n (suc t))) × (window n (strip n (suc t)) p ≡ w)
  unfolding window
  placed w r = go (found w r)
    where
      s : List ℕ
      s = strip n (suc t)

      en : (n ≤ length s) × ((i : ℕ) → length s ≤ i + n → i < length s → sec s i ≡ t)
      en = ends whole.tail

      eq-by : (p : ℕ) → ((h : ℕ) → h < n → sec w h ≡ sec s ((p + h) % length s)) → tab n (λ h. get_or s ((p + h) % length s) 0) ≡ w
      eq-by p f =
          let long = length-tab n (λ h. get_or s ((p + h) % length s) 0) in
          ext_get_or 0 (tab n (λ h. get_or s ((p + h) % length s) 0)) w (long ∙ sym r.long) (λ i h. get_d-tab n (λ h. get_or s ((p + h) % length s) 0) i 0 (rw long at h) ∙ sym (f i (rw long at h)))

      go : Found n t (sec (zeros n)) (sec s) (length s) (sec w) → (p : ℕ) × (p < length s) × (tab n (λ h. get_or s ((p + h) % length s) 0) ≡ w)
      go (Found.stands p b f) = (p, omega arith, eq-by p (λ h k. f h (p + h) refl k ∙ ap (sec s) (sym (mod-eq_of_lt (inside h k)))))
        where
          inside : (h : ℕ) → h < n → p + h < length s
          inside h k = omega arith
      go (Found.around j b f g) = (length s - (n - j), omega (arith, en.0), eq-by (length s - (n - j)) at)
        where
          at : (h : ℕ) → h < n → sec w h ≡ sec s ((length s - (n - j) + h) % length s)
          at h k =
              elim (dec_lt (h + j) n) [
                | yes c ↦ f h c ∙ sym (en.1 (length s - (n - j) + h) (omega (arith, en.0)) (inside c)) ∙ ap (sec s) (sym (mod-eq_of_lt (inside c)))
                | no c ↦ g h (h + j - n) (omega arith) k ∙ sym (begins whole.tail (h + j - n) (omega arith)) ∙ ap (sec s) (sym (around-mod c))
              ]
            where
              inside : h + j < n → length s - (n - j) + h < length s
              inside c = omega (arith, en.0)

              over : ¬ (h + j < n) → length s - (n - j) + h ≡ length s + (h + j - n)
              over c = omega (arith, en.0)

              small : ¬ (h + j < n) → h + j - n < length s
              small c = omega (arith, en.0)

              around-mod : ¬ (h + j < n) → (length s - (n - j) + h) % length s ≡ h + j - n
              around-mod c = ap (λ (i : ℕ). i % length s) (over c) ∙ add-mod_left (length s) (h + j - n) ∙ mod-eq_of_lt (small c)
