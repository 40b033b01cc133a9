-- Offering a ring: what is put into the places.
--     offer-no, offer-yes   the ring is not taken, or it is
--     copied-over           a ring copied over its part of the places, or counts over theirs of the tallies
use Rattle.words.proofs.Plain.{ℕ, ◌+◌, ◌-◌, ◌*◌, ◌<◌, ◌≤◌, arith, ◌≡◌, refl, sym, ◌∙◌, Bool, true, false, List, ◌++◌, length, get_or, take, drop, length-drop}
use Rattle.words.proofs.Plain.{ext_get_or, get_or-take, get_or-drop, length-take-le, drop-drop}
use Rattle.words.proofs.Split.{lt, eq, gt, tri}
use Rattle.set_far_inner.proofs.Far.{counts-sixteen}
use Rattle.set_laws.proofs.Lists.{length_more, at_old, at_new}
use Rattle.set_laws.proofs.Choice.{offered-yes, offered-no}
use Rattle.set_laws.proofs.Places.{over, over-length, over-before, over-inside, put-laid}
use Rattle.guard_spec.specs.{declared.Rule.Rule, Choice.may_join}
use Rattle.set_clear_inner.specs.Says.{tally_at, Comparable}
use Rattle.set_clear_inner.proofs.Clear.{stock-length}
use Rattle.set_places_inner.specs.Says.{OfferSays, may_in}
use Rattle.set_places_inner.proofs.Joining.{may-in}

-- ---- the tallies

-- 16 counts c put at place t of the tallies
module _ (q c : List ℕ) (t : ℕ) (size : length q ≡ 512) (most : t < 32) (many : length c ≡ 16) where
  room : 16 * t + length c ≤ length q
  room = omega arith

  tally-length : (r : List ℕ) (j : ℕ) → length r ≡ 512 → j < 32 → length (tally_at r j) ≡ 16
  tally-length r j e h = length-take-le 16 (drop (16 * j) r) (omega (arith, length-drop (16 * j) r))

  put-length : length (over q (16 * t) c) ≡ 512
  put-length = over-length q (16 * t) c room ∙ size

  -- the counts that a place of the tallies has
  tally-at : (r : List ℕ) (j i : ℕ) → i < 16 → get_or (tally_at r j) i 0 ≡ get_or r (16 * j + i) 0
  tally-at r j i h = get_or-take 16 (drop (16 * j) r) i 0 h ∙ get_or-drop (16 * j) r i 0

  tally-old : (j : ℕ) → j < t → tally_at (over q (16 * t) c) j ≡ tally_at q j
  tally-old j h =
      let l = tally-length (over q (16 * t) c) j put-length (omega arith) in
      ext_get_or 0 (tally_at (over q (16 * t) c) j) (tally_at q j) (l ∙ sym (tally-length q j size (omega arith)))
      (λ i b. tally-at (over q (16 * t) c) j i (omega (arith, l)) ∙ over-before q (16 * t) c room (16 * j + i) (omega (arith, l)) ∙ sym (tally-at q j i (omega (arith, l))))

  tally-new : tally_at (over q (16 * t) c) t ≡ c
  tally-new =
      let l = tally-length (over q (16 * t) c) t put-length most in
      ext_get_or 0 (tally_at (over q (16 * t) c) t) c (l ∙ sym many)
      (λ i b. tally-at (over q (16 * t) c) t i (omega (arith, l)) ∙ over-inside q (16 * t) c room (16 * t + i) i refl (omega (arith, l)))

-- ---- the offer

-- what stands there with l in the part between two places
abbrev pub laid_over : List ℕ → ℕ → ℕ → List ℕ → List ℕ
laid_over p at end l = take at p ++ (l ++ drop (end - at) (drop at p))

copied-over : (p w l : List ℕ) (at end : ℕ) → end ≡ at + length w → l ≡ w → laid_over p at end l ≡ over p at w
copied-over p w l at end e r =
    let f : at + (end - at) ≡ at + length w = omega arith in
    rw (r, drop-drop (end - at) at p, f) refl

-- the ring and its counts fit into their places
pub offer-room : {p q : List ℕ} {t : ℕ} {w c : List ℕ} {k : ℕ} → Comparable p q t w c k → t < 32 → (24 * t + length w ≤ length p) × (16 * t + 16 ≤ length q) × (length c ≡ 16)
offer-room {w = w} {c = c} a most =
    (omega (arith, stock-length a.stock, a.fit.short), omega (arith, a.stock.holds.room), counts-sixteen w c a.counts)

-- what offering the ring w to places that hold t promises
module _ {p q : List ℕ} {t : ℕ} {w c : List ℕ} {k : ℕ} (a : Comparable p q t w c k) (rule : Rule) (d : ℕ) {x : Bool} (f : x ≡ may_in rule (length w) d p t w) where
  pub offer-no : x ≡ false → OfferSays rule k d p q t w t p q
  offer-no e ts h = rw (offered-no (may_join rule d) ts w (sym (may-in rule d w a.fit.short a.most h) ∙ sym f ∙ e)) h

  module _ (most : t < 32) where
    sixteen : length c ≡ 16
    sixteen = (offer-room a most).2

    pub offer-yes : x ≡ true → {l m : List ℕ} → l ≡ w → m ≡ c →
        OfferSays rule k d p q t w (t + 1) (laid_over p (24 * t) (24 * t + length w) l) (laid_over q (16 * t) (16 * t + 16) m)
    offer-yes e {l = l} {m = m} f' g ts h =
        let joins = sym (may-in rule d w a.fit.short a.most h) ∙ sym f ∙ e in
        rw (offered-yes (may_join rule d) ts w joins, copied-over q c m (16 * t) (16 * t + 16) (omega (arith, sixteen)) g)
        (record {
          places = copied-over p w l (24 * t) (24 * t + length w) refl f' ∙ rw (h.places, h.number) (put-laid ts w (omega (arith, h.number)) a.fit.short);
          number = omega (arith, h.number, length_more ts w);
          each = λ j b. elim (tri j (length ts)) [
            | lt l ↦ rw (at_old ts w j l) (h.each j l)
            | eq l ↦ rw (l, at_new ts w) a.reading
            | gt l ↦ absurd (omega (arith, length_more ts w))
          ];
          room = put-length q c t h.room most sixteen;
          tallies = λ j b. elim (tri j (length ts)) [
            | lt l ↦ rw (at_old ts w j l) (tally-old q c t h.room most sixteen j (omega (arith, h.number)) ∙ h.tallies j l)
            | eq l ↦ rw (l, at_new ts w, ← h.number) (tally-new q c t h.room most sixteen ∙ a.counts)
            | gt l ↦ absurd (omega (arith, length_more ts w))
          ];
        })
