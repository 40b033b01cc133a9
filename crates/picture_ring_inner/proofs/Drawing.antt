-- A ring's arcs drawn sector after sector.
--     split                                    the sectors from place i on, the first of them by itself
--     fits_on, fits-arc, run-le                what a sector draws
--     Drawing, drawing-none, drawing-on, drawing-room, drawing-end    sector after sector
--     turned-long, turned-short, turned-some, turned-from, turned-below    a turned ring; ring-fits, and the whole of it
use Rattle.words.proofs.Plain.{ℕ, zero, suc, ◌+◌, ◌-◌, ◌*◌, ◌<◌, ◌≤◌, add-one, arith, ◌≡◌, refl, sym, ap, ◌∙◌, List, [], ◌∷◌, ◌++◌, append_assoc, append-nil}
use Rattle.words.proofs.Plain.{ltb, eqb, length, get_or, drop, drop_of_length-le, length-drop, eq-eqb, ne_eqb, ltb-true, ltb-false}
use Rattle.words.specs.Turn.{turn}
use Rattle.words.proofs.Turn.{length-turn, turn_low, turn-high}
use Rattle.refusal.specs.Calls.{Below}
use Rattle.words.proofs.Split.{passes, fails, test}
use Rattle.text_form_inner.specs.Fits.{Fits}
use Rattle.text_form_inner.proofs.Fits.{fits-none, fits-append, fits-room, fits_more}
use Rattle.picture_spec.specs.{declared.Tone.Tone, Gray.gray}
use Rattle.picture_spec.specs.Arcs.{reach, Arc, arcs_from, first_run, arcs}
use Rattle.picture_spec.specs.Text.{with_numbers, arc_form, arc_numbers, arc_text, arc_texts, ring_picture}
use Rattle.picture_laws.proofs.Seen.{reach-same, reach-other, reach-le}
use Rattle.picture_ring_inner.specs.Parts.{sector_arcs}

pub split : (t : List ℕ) (i : ℕ) → i < length t → drop i t ≡ get_or t i 0 ∷ drop (i + 1) t
split [] i h = absurd (omega arith)
split (a ∷ t) zero h = refl
split (a ∷ t) (suc i) h = let e : suc i + 1 ≡ suc (i + 1) = omega arith in rw e (split t i (omega arith))

-- ---- one sector

sector-split : (p j : ℕ) (w : List ℕ) (i : ℕ) → i < length w → sector_arcs p j (drop i w) ≡ sector_arcs p j (get_or w i 0 ∷ drop (i + 1) w)
sector-split p j w i h = ap (λ (x : List ℕ). sector_arcs p j x) (split w i h)

-- it goes on
sector-none : (tone : Tone) (n k p j : ℕ) (w : List ℕ) (i : ℕ) → i < length w → get_or w i 0 ≡ p → arc_texts tone n k (sector_arcs p j (drop i w)) ≡ []
unfolding sector_arcs arc_texts
sector-none tone n k p j w i h e = rw (sector-split p j w i h, eq-eqb (get_or w i 0) p e, sector_arcs) refl

-- it begins an arc
sector-arc : (tone : Tone) (n k p j : ℕ) (w : List ℕ) (i : ℕ) → i < length w → (get_or w i 0 ≡ p → ⊥) → (d g : ℕ) → d ≡ reach (get_or w i 0) (drop i w) → g ≡ gray tone k (get_or w i 0) →
    arc_texts tone n k (sector_arcs p j (drop i w)) ≡ with_numbers arc_form (arc_numbers n j d g)
unfolding sector_arcs arc_texts arc_text
sector-arc tone n k p j w i h e d g x y =
    let z : d ≡ reach (get_or w i 0) (get_or w i 0 ∷ drop (i + 1) w) = x ∙ ap (λ (v : List ℕ). reach (get_or w i 0) v) (split w i h) in
    rw (sector-split p j w i h, ne_eqb (get_or w i 0) p e, sector_arcs, z, y) (append-nil _)

module _ (tone : Tone) (n k p j : ℕ) (w : List ℕ) (i : ℕ) (h : i < length w) (b : List ℕ) (at : ℕ) where
  pub fits_on : get_or w i 0 ≡ p → Fits 256 b at (arc_texts tone n k (sector_arcs p j (drop i w))) at b
  fits_on e = rw (sector-none tone n k p j w i h e) (fits_more (fits-none b at) 256 (omega arith))

  pub fits-arc : (get_or w i 0 ≡ p → ⊥) → (d g : ℕ) → d ≡ reach (get_or w i 0) (drop i w) → g ≡ gray tone k (get_or w i 0) → (r : ℕ) (b' : List ℕ) →
      Fits 256 b at (with_numbers arc_form (arc_numbers n j d g)) r b' → Fits 256 b at (arc_texts tone n k (sector_arcs p j (drop i w))) r b'
  fits-arc e d g x y r b' f = rw (sector-arc tone n k p j w i h e d g x y) f

-- a run is no longer than the ring
pub run-le : (s : ℕ) (w : List ℕ) (i d : ℕ) → d ≡ reach s (drop i w) → d ≤ length w
run-le s w i d e = omega (arith, e, reach-le s (drop i w), length-drop i w)

-- ---- sector after sector

-- the arcs of a sector, and those of the sectors behind it
arcs-split : (tone : Tone) (n k p j s : ℕ) (w : List ℕ) → arc_texts tone n k (sector_arcs p j (s ∷ w)) ++ arc_texts tone n k (arcs_from s (j + 1) w) ≡ arc_texts tone n k (arcs_from p j (s ∷ w))
unfolding sector_arcs arcs_from arc_texts
arcs-split tone n k p j s w =
    elim (test (eqb s p)) [
      | passes e ↦ rw (e, sector_arcs, arcs_from, add-one j) refl
      | fails e ↦
          rw (e, sector_arcs, arcs_from, add-one j, reach-same s s w refl)
          (append_assoc (arc_text tone n k (record { from = j; long = suc (reach s w); shade = s })) [] (arc_texts tone n k (arcs_from s (suc j) w)))
    ]

-- the first i sectors of w are drawn, of which p is the last one's shade
pub record Drawing (tone : Tone) (k : ℕ) (w : List ℕ) (o : ℕ) (b : List ℕ) (at p i q : ℕ) (b' : List ℕ) : Type 0 where
  pub done : List ℕ
  pub whole : done ++ arc_texts tone (length w) k (arcs_from p (o + i) (drop i w)) ≡ arc_texts tone (length w) k (arcs_from 16 o w)
  pub fits : Fits (256 * i) b at done q b'

pub drawing-none : (tone : Tone) (k : ℕ) (w : List ℕ) (o : ℕ) (b : List ℕ) (at : ℕ) → Drawing tone k w o b at 16 0 at b
drawing-none tone k w o b at =
    let e : o + 0 ≡ o = omega arith in
    record { done = []; whole = rw e refl; fits = fits-none b at }

module _ (tone : Tone) (k : ℕ) (w : List ℕ) (o : ℕ) (b : List ℕ) (at p i q : ℕ) (b' : List ℕ) (f : Drawing tone k w o b at p i q b') where
  pub drawing-room : i < length w → length w ≤ 64 → at + 16384 ≤ length b → q + 256 ≤ length b'
  drawing-room h l r = fits-room f.fits 256 (omega arith)

  pub drawing-on : i < length w → (s r : ℕ) → s ≡ get_or w i 0 → (b'' : List ℕ) → Fits 256 b' q (arc_texts tone (length w) k (sector_arcs p (o + i)
      (drop i w))) r b'' → Drawing tone k w o b at s (i + 1) r b''
  drawing-on h s r e b'' y =
      let n = length w in
      let x = arc_texts tone n k (sector_arcs p (o + i) (drop i w)) in
      let u = drop (i + 1) w in
      let g : o + (i + 1) ≡ o + i + 1 = omega arith in
      let m : 256 * (i + 1) ≡ 256 * i + 256 = omega arith in
      record {
        done = f.done ++ x;
        whole =
            append_assoc f.done x (arc_texts tone n k (arcs_from s (o + (i + 1)) u))
            ∙ ap (λ (z : List ℕ). f.done ++ z)
            (rw (e, g, split w i h) (arcs-split tone n k p (o + i) (get_or w i 0) u) ∙ ap (λ (z : List ℕ). arc_texts tone n k (arcs_from p (o + i) z)) (sym (split w i h)))
            ∙ f.whole;
        fits = rw m (fits-append f.fits y);
      }

  pub drawing-end : length w ≤ i → i ≤ 64 → Fits 16384 b at (arc_texts tone (length w) k (arcs_from 16 o w)) q b'
  unfolding arcs_from arc_texts
  drawing-end h l =
      let d : drop i w ≡ [] = drop_of_length-le w {i = i} h in
      let z : f.done ++ arc_texts tone (length w) k (arcs_from p (o + i) []) ≡ arc_texts tone (length w) k (arcs_from 16 o w) = rw d at f.whole in
      let e : f.done ≡ arc_texts tone (length w) k (arcs_from 16 o w) = sym (append-nil f.done) ∙ z in
      fits_more (rw e at f.fits) 16384 (omega arith)

-- ---- the ring

-- v is w turned by o
module _ (w : List ℕ) (o : ℕ) (l : o ≤ length w) (v : List ℕ) (t : v ≡ turn o w) where
  pub turned-long : length v ≡ length w
  turned-long = rw t (length-turn o w l)

  pub turned-short : length w ≤ 64 → length v ≤ 64
  turned-short h = omega (arith, turned-long)

  pub turned-some : 0 < length w → 0 < length v
  turned-some h = omega (arith, turned-long)

  pub turned-from : o ≤ length v
  turned-from = omega (arith, turned-long)

  pub turned-below : (k : ℕ) → 0 < length w → Below w (λ i. k) → Below v (λ i. k)
  turned-below k z b j h =
      rw t (elim (test (ltb (o + j) (length w))) [
        | passes x ↦ let y = ltb-true (o + j) (length w) x in rw (turn_low o w j (o + j) refl y) (b (o + j) y)
        | fails x ↦
            let y = ltb-false (o + j) (length w) x in
            rw (turn-high o w l j (o + j - length w) (omega arith) (omega (arith, turned-long))) (b (o + j - length w) (omega (arith, turned-long)))
      ])

-- o is the length of the first run
first-is : (w : List ℕ) (o : ℕ) → o ≡ reach (get_or w 0 0) (drop 0 w) → o ≡ first_run w
unfolding first_run
first-is w o e = e

pub ring-fits : (w : List ℕ) (o : ℕ) → o ≡ reach (get_or w 0 0) (drop 0 w) → (v : List ℕ) → v ≡ turn o w → (tone : Tone) (k : ℕ) (b : List ℕ) (at r : ℕ) (b' : List ℕ) →
    Fits 16384 b at (arc_texts tone (length v) k (arcs_from 16 o v)) r b' → Fits 16384 b at (ring_picture tone k w) r b'
unfolding ring_picture arcs
ring-fits w o e v t tone k b at r b' f =
    let x : arc_texts tone (length v) k (arcs_from 16 o v) ≡ arc_texts tone (length w) k (arcs_from 16 (first_run w) (turn (first_run w) w)) =
    ap (λ (n : ℕ). arc_texts tone n k (arcs_from 16 o v)) (turned-long w o (run-le (get_or w 0 0) w 0 o e) v t)
    ∙ ap (λ (u : List ℕ). arc_texts tone (length w) k (arcs_from 16 o u)) t ∙ ap (λ (i : ℕ). arc_texts tone (length w) k (arcs_from 16 i (turn i w))) (first-is w o e) in
    rw x at f
