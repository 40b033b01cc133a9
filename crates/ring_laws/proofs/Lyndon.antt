-- Lyndon words, periods and lyn, by the run of a word's sectors.
--     run-necklace, necklace-run    a run of p is a necklace exactly when p divides the length (002, section 2)
--     period-run                    then its period is p
--     lyndon-of, of-lyndon          lyndon w, and Lyn of its sectors
--     lyn-run, run-lyn              a prenecklace is a run of its lyn, and the run decides lyn
--     lyndon-below, below-lyndon    'necklace with period n' and 'below each of its other turns' agree
--     lyndon-one                    each reading of one sector is a Lyndon word
use Rattle.words.proofs.Plain.{ℕ, suc, ◌+◌, ◌-◌, ◌*◌, ◌/◌, ◌%◌, ◌<◌, ◌≤◌, arith, ◌≡◌, refl, sym, ap, ◌∙◌, ⊎_elim, true, false, List, [], ◌∷◌, eqb, length, get_or}
use Rattle.words.proofs.Plain.{take, ext_get_or, length-take-le, get_or-take, eq-eqb, eqb-true}
use native.Mathlib.Nat.{div-add-mod', mod_self, add-mod_right, mul-add-mod_self_right, eq-zero-or-pos, mod-le}
use Rattle.words.specs.{Order.before, Order.same, Turn.turn}
use Rattle.words.proofs.Split.{lt, eq, gt, tri, both, both_left, both_right, refuted, clash}
use Rattle.words.proofs.Search.{least-is, greatest-is, all-at, all_of}
use Rattle.words.proofs.Sequence.{sec}
use Rattle.words.proofs.Lex.{same_true, true_same, less-before, before-irrefl, before-up_to, up_to-refl}
use Rattle.words.proofs.Turn.{length-turn, turn_low, turn-high, turn-zero}
use Rattle.rings.specs.Necklace.{necklace, not_above_turn, repeats_by, period, lyndon, below_other_turns}
use Rattle.rings.specs.Prenecklace.{prenecklace, lyn}
use Rattle.ring_laws.proofs.Run.{Lyn, Run, lyn-self, lyn-one, longest, has-run, run-pre, lyn-through}
use Rattle.ring_laws.proofs.Repeat.{run_rep, neck, no-neck}
use Rattle.ring_laws.proofs.Words.{pre-of, of-pre, neck-of, of-neck, turned, necklace-prenecklace}

module _ (w : List ℕ) (p : ℕ) (r : Run (sec w) (length w) p) where
  -- a run of p is a necklace exactly when p divides the length
  pub run-necklace : length w % p ≡ 0 → necklace w ≡ true
  run-necklace d = of-neck w (neck (sec w) (length w) p (length w / p) r (omega (arith, div-add-mod' (length w) p)))

  pub necklace-run : necklace w ≡ true → length w % p ≡ 0
  necklace-run h = ⊎_elim (λ e. e) (λ z. absurd (falls z)) (eq-zero-or-pos (length w % p))
    where
      falls : 0 < length w % p → ⊥
      falls z =
          let i = length w - length w % p in
          let b : i < length w = omega (arith, mod-le (length w) p) in
          neck-of w h i (sec (turn i w)) b (turned w i (omega arith)) (no-neck (sec w) (length w) p r z (sec (turn i w)) (turned w i (omega arith)))

  -- turning by p changes nothing where p divides the length
  pub turn-run : length w % p ≡ 0 → turn p w ≡ w
  turn-run d = ext_get_or 0 (turn p w) w (length-turn p w r.fits) (λ m b. at m (rw (length-turn p w r.fits) at b))
    where
      wrapped : (m : ℕ) → m < length w → length w ≤ p + m → get_or (turn p w) m 0 ≡ get_or w m 0
      wrapped m b h =
          let j = p + m - length w in
          let e : p + m ≡ length w + j = omega arith in
          let q : length w ≡ length w / p * p = omega (arith, div-add-mod' (length w) p) in
          turn-high p w r.fits m j e b ∙ run_rep (sec w) (length w) p r j (omega arith) ∙ ap (sec w)
          (sym (mul-add-mod_self_right (length w / p) p j) ∙ ap (λ (x : ℕ). (x + j) % p) (sym q) ∙ ap (λ (x : ℕ). x % p) (sym e ∙ omega arith) ∙
          add-mod_right m p) ∙ sym (run_rep (sec w) (length w) p r m b)

      at : (m : ℕ) → m < length w → get_or (turn p w) m 0 ≡ get_or w m 0
      at m b =
          elim (tri (p + m) (length w)) [
            | lt h ↦ turn_low p w m (p + m) refl h ∙ r.again (p + m) m refl h
            | eq h ↦ wrapped m b (omega arith)
            | gt h ↦ wrapped m b (omega arith)
          ]

  -- no smaller number of turns changes nothing
  short-turn : (q : ℕ) → 0 < q → q < p → repeats_by w q ≡ false
  unfolding repeats_by
  short-turn q z h =
      refuted (repeats_by w q) (λ e.
      let d = r.lyn q z h in
      let t = same_true (turn q w) w (both_right (eqb (length w % q) 0) (same (turn q w) w) e) in
      omega (arith, d.less, sym (turn_low q w d.at (q + d.at) refl (omega (arith, d.bound, r.fits))) ∙ ap (λ (u : List ℕ). get_or u d.at 0) t))

  -- the period of a necklace that is a run of p is p
  pub period-run : length w % p ≡ 0 → period w ≡ p
  unfolding period repeats_by
  period-run d =
      let e : suc (p - 1) ≡ p = omega (arith, r.pos) in
      ap suc (least-is (length w) (λ i. repeats_by w (suc i)) (p - 1) (omega (arith, r.pos, r.fits))
      (rw e (both (eqb (length w % p) 0) (same (turn p w) w) (eq-eqb (length w % p) 0 d) (true_same (turn p w) w (turn-run d))))
      (λ j b. short-turn (suc j) (omega arith) (omega arith))) ∙ e

-- lyndon w, and Lyn of its sectors
pub lyndon-of : (w : List ℕ) → 0 < length w → Lyn (sec w) (length w) → lyndon w ≡ true
unfolding lyndon
lyndon-of w z l =
    let r = lyn-self (sec w) (length w) z l in
    both (necklace w) (eqb (period w) (length w)) (run-necklace w (length w) r (mod_self (length w))) (eq-eqb (period w) (length w) (period-run w (length w) r (mod_self (length w))))

pub of-lyndon : (w : List ℕ) → 0 < length w → lyndon w ≡ true → Lyn (sec w) (length w)
unfolding lyndon
of-lyndon w z h = go (has-run (sec w) (length w) z (pre-of w (necklace-prenecklace w n)))
  where
    n : necklace w ≡ true
    n = both_left (necklace w) (eqb (period w) (length w)) h

    go : (p : ℕ) × Run (sec w) (length w) p → Lyn (sec w) (length w)
    go (p, r) =
        let e : p ≡ length w = sym (period-run w p r (necklace-run w p r n)) ∙ eqb-true (period w) (length w) (both_right (necklace w) (eqb (period w) (length w)) h) in
        rw e at r.lyn

-- the empty word is no Lyndon word
pub lyndon-pos : (w : List ℕ) → lyndon w ≡ true → 0 < length w
unfolding lyndon period
lyndon-pos [] h = absurd (let e = eqb-true (period []) 0 (both_right (necklace []) (eqb (period []) 0) h) in omega arith)
lyndon-pos (a ∷ w) h = omega arith

-- ---- lyn

-- the beginning of length p is a Lyndon word exactly where the sectors say so
begin-lyndon : (w : List ℕ) (p : ℕ) → 0 < p → p ≤ length w → Lyn (sec w) p → lyndon (take p w) ≡ true
begin-lyndon w p z h l =
    let e = length-take-le p w h in
    lyndon-of (take p w) (rw e z) (rw e (lyn-through (sec w) (sec (take p w)) p (λ m b. sym (get_or-take p w m 0 b)) l))

lyndon-begin : (w : List ℕ) (p : ℕ) → 0 < p → p ≤ length w → lyndon (take p w) ≡ true → Lyn (sec w) p
lyndon-begin w p z h l =
    let e = length-take-le p w h in
    lyn-through (sec (take p w)) (sec w) p (λ m b. get_or-take p w m 0 b) (rw e at (of-lyndon (take p w) (rw e z) l))

-- the run of a word decides its lyn
pub run-lyn : (w : List ℕ) (p : ℕ) → Run (sec w) (length w) p → lyn w ≡ p
unfolding lyn
run-lyn w p r =
    greatest-is (length w) (λ q. lyndon (take q w)) p r.pos r.fits (begin-lyndon w p r.pos r.fits r.lyn)
    (λ q h b. refuted (lyndon (take q w)) (λ l. longest (sec w) (length w) p q r h b (lyndon-begin w q (omega arith) b l)))

-- a prenecklace is a run of its lyn
pub lyn-run : (w : List ℕ) → 0 < length w → prenecklace w ≡ true → Run (sec w) (length w) (lyn w)
lyn-run w z h = go (has-run (sec w) (length w) z (pre-of w h))
  where
    go : (p : ℕ) × Run (sec w) (length w) p → Run (sec w) (length w) (lyn w)
    go (p, r) = rw (run-lyn w p r) r

pub run-prenecklace : (w : List ℕ) (p : ℕ) → Run (sec w) (length w) p → prenecklace w ≡ true
run-prenecklace w p r = of-pre w (run-pre (sec w) (length w) p r)

-- ---- the two forms of a Lyndon word

-- a Lyndon word is below each of its other turns
pub lyndon-below : (w : List ℕ) → lyndon w ≡ true → below_other_turns w ≡ true
unfolding below_other_turns
lyndon-below w h =
    all_of (length w - 1) (λ i. before w (turn (suc i) w)) (λ i b.
    let d = l (suc i) (omega arith) (omega arith) in
    less-before w (turn (suc i) w) (sym (length-turn (suc i) w (omega arith))) (rw (length-turn (suc i) w (omega arith)) (record {
      at = d.at;
      bound = omega (arith, d.bound);
      agree = λ m q. d.agree m q ∙ sym (turn_low (suc i) w m (suc i + m) refl (omega (arith, d.bound)));
      less = omega (arith, d.less, turn_low (suc i) w d.at (suc i + d.at) refl (omega (arith, d.bound)));
    })))
  where
    l : Lyn (sec w) (length w)
    l = of-lyndon w (lyndon-pos w h) h

-- and a word that is below each of its other turns is one
pub below-lyndon : (w : List ℕ) → 0 < length w → below_other_turns w ≡ true → lyndon w ≡ true
unfolding below_other_turns necklace not_above_turn
below-lyndon w z h = go (has-run (sec w) (length w) z (pre-of w (necklace-prenecklace w neck)))
  where
    under : (i : ℕ) → 0 < i → i < length w → before w (turn i w) ≡ true
    under i q b =
        let e : suc (i - 1) ≡ i = omega arith in
        rw e at (all-at (length w - 1) (λ j. before w (turn (suc j) w)) h (i - 1) (omega arith))

    neck : necklace w ≡ true
    neck = all_of (length w) (not_above_turn w) (λ i b. elim (tri 0 i) [ lt q ↦ before-up_to w (turn i w) (under i q b) | eq q ↦ rw (← q, turn-zero w) (up_to-refl w) | gt q ↦ absurd (omega arith) ])

    go : (p : ℕ) × Run (sec w) (length w) p → lyndon w ≡ true
    go (p, r) =
        elim (tri p (length w)) [
          | lt b ↦ clash (before w w) (rw (turn-run w p r (necklace-run w p r neck)) at (under p r.pos b)) (before-irrefl w)
          | eq b ↦ lyndon-of w z (rw b at r.lyn)
          | gt b ↦ absurd (omega (arith, r.fits))
        ]

-- each reading of one sector is a Lyndon word
pub lyndon-one : (a : ℕ) → lyndon (a ∷ []) ≡ true
lyndon-one a = lyndon-of (a ∷ []) (omega arith) (lyn-one (sec (a ∷ [])))
