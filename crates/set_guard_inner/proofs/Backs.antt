-- The other side of a ring, and the tests that are made of it.
--     far-back, counts-back  a ring reversed is as far from a reading as its mirror image, and has the ring's counts
--     back-asked, back-pair  so it can be compared with the places, and with the ring
--     not-steady-in, not-sided-in, guarded-in    what the three tests tell
use Rattle.words.proofs.Plain.{ℕ, ◌<◌, arith, ◌≡◌, refl, sym, ap, ◌∙◌, Bool, true, false, ◌&&◌, not, List, reverse, ltb, length, length-reverse, ext_get_or}
use Rattle.words.specs.Search.{tab}
use Rattle.words.proofs.{Split.not_left, Split.not_right, Search.length-tab, Search.get_d-tab, Turn.reading-reverse}
use Rattle.rings.specs.{Alike.mirrored, Counts.occurs, Counts.counts_of}
use Rattle.ring_home_laws.proofs.Counts.{occurs-reverse}
use Rattle.refusal.specs.{Order.Passed, Calls.two_readings}
use Rattle.home_spec.specs.Turns.{steady}
use Rattle.set_spec.specs.{Greedy.far_from, Places.place_at}
use Rattle.guard_laws.proofs.Mirror.{apart-home-right}
use Rattle.set_clear_inner.specs.Says.{Comparable, clear_in}
use Rattle.set_clear_inner.proofs.Clear.{all-cong, pair-good, place-length}
use Rattle.set_guard_inner.specs.Says.{guard_in}

-- a ring reversed is as far from a reading as its mirror image
far-back : (d : ℕ) (v w : List ℕ) → 0 < length w → length v ≡ length w → far_from d v (reverse w) ≡ far_from d v (mirrored w)
unfolding far_from mirrored
far-back d v w z e =
    ap (λ (x : ℕ). not (ltb x d)) (sym (apart-home-right v (reverse w) (omega (arith, length-reverse w)) (e ∙ sym (length-reverse w))))

-- it has the ring's counts
counts-back : (w : List ℕ) → counts_of 16 (reverse w) ≡ counts_of 16 w
unfolding counts_of
counts-back w =
    let l = length-tab 16 (λ j. occurs j (reverse w)) in
    ext_get_or 0 (tab 16 (λ j. occurs j (reverse w))) (tab 16 (λ j. occurs j w)) (l ∙ sym (length-tab 16 (λ j. occurs j w)))
    (λ i h. let g : i < 16 = omega (arith, l) in get_d-tab 16 (λ j. occurs j (reverse w)) i 0 g ∙ occurs-reverse i w ∙ sym (get_d-tab 16 (λ j. occurs j w) i 0 g))

-- the ring w, and b, which is w reversed: what is asked of b, and what is told of it
module _ {p q : List ℕ} {t : ℕ} {w c : List ℕ} {k : ℕ} (a : Comparable p q t w c k) {b : List ℕ} (e : b ≡ reverse w) where
  back-length : length b ≡ length w
  back-length = ap length e ∙ length-reverse w

  pub back-asked : Comparable p q t b c k
  back-asked =
      record {
        fit = rw back-length a.fit;
        reading = rw (back-length, e) (reading-reverse (length w) k w a.reading);
        counts = a.counts ∙ sym (ap (counts_of 16) e ∙ counts-back w);
        stock = rw back-length a.stock;
        most = a.most;
      }

  pub back-pair : Passed (two_readings w b k) × ((c ≡ counts_of 16 w) × (c ≡ counts_of 16 b))
  back-pair = (pair-good w b k back-asked.fit (rw back-length a.reading) back-asked.reading, (a.counts, back-asked.counts))

  module _ (d : ℕ) where
    back-far : far_from d w b ≡ far_from d w (mirrored w)
    back-far = ap (far_from d w) e ∙ far-back d w w (omega (arith, a.fit.some)) refl

    back-clear : clear_in (length b) d p t b ≡ clear_in (length w) d p t (mirrored w)
    back-clear =
        rw (back-length, e) (all-cong t (λ j. far_from d (place_at (length w) p j) (reverse w)) (λ j. far_from d (place_at (length w) p j) (mirrored w))
        (λ j h. far-back d (place_at (length w) p j) w (omega (arith, a.fit.some)) (place-length a j h)))

    -- what the three tests tell
    module _ {x : Bool} (f : x ≡ steady d w) where
      pub not-steady-in : x ≡ false → false ≡ guard_in (length w) d p t w
      not-steady-in l = sym (not_right (clear_in (length w) d p t (mirrored w) && far_from d w (mirrored w)) (steady d w) (sym f ∙ l))

      module _ {y : Bool} (g : y ≡ far_from d w b) where
        pub not-sided-in : y ≡ false → false ≡ guard_in (length w) d p t w
        not-sided-in l =
            sym (not_left (clear_in (length w) d p t (mirrored w) && far_from d w (mirrored w)) (steady d w)
            (not_right (clear_in (length w) d p t (mirrored w)) (far_from d w (mirrored w)) (sym back-far ∙ sym g ∙ l)))

        pub guarded-in : x ≡ true → y ≡ true → {r : Bool} → r ≡ clear_in (length b) d p t b → r ≡ guard_in (length w) d p t w
        guarded-in m l h = h ∙ back-clear ∙ sym (rw (sym back-far ∙ sym g ∙ l, sym f ∙ m) (kept (clear_in (length w) d p t (mirrored w))))
          where
            kept : (z : Bool) → ((z && true) && true) ≡ z
            kept true = refl
            kept false = refl
