-- The period (specs/Necklace of `rings`), of readings with at least one sector.
--     period-pos, period-le, period-divides, period-turn    it is at least 1, at most n, it divides n, and turning by it changes nothing
--     period-least                                          it is the least such number
--     period-on, period-turns                               turning by the period any number of times changes nothing
--     period-of-turn                                        turning a reading does not change its period
--     period-measures, measured-turn                        turning by i changes nothing exactly where the period divides i
use Rattle.words.proofs.Plain.{ℕ, zero, suc, ◌+◌, ◌-◌, ◌*◌, ◌/◌, ◌%◌, ◌<◌, ◌≤◌, arith, ◌≡◌, sym, ap, ◌∙◌, true, List, eqb, length, eqb-true, eq-eqb}
use native.Mathlib.Nat.{zero-mul, suc-mul, mod_self, mod-lt, div-add-mod'}
use Rattle.words.specs.{Search.least, Order.same, Turn.turn}
use Rattle.words.proofs.Split.{lt, eq, gt, tri, both, both_left, both_right, clash}
use Rattle.words.proofs.{Search.least_at, Search.least-none, Lex.same_true, Lex.true_same}
use Rattle.words.proofs.Turn.{length-turn, turn-zero, turn-length, turn-turn, turn-back, turn-comm}
use Rattle.rings.specs.Necklace.{repeats_by, period}

-- ---- repeating by p

-- what repeats a reading divides its length
pub repeats-divides : (w : List ℕ) (p : ℕ) → repeats_by w p ≡ true → length w % p ≡ 0
unfolding repeats_by
repeats-divides w p h = eqb-true (length w % p) 0 (both_left (eqb (length w % p) 0) (same (turn p w) w) h)

-- turning by what repeats a reading changes nothing
pub repeats-turn : (w : List ℕ) (p : ℕ) → repeats_by w p ≡ true → turn p w ≡ w
unfolding repeats_by
repeats-turn w p h = same_true (turn p w) w (both_right (eqb (length w % p) 0) (same (turn p w) w) h)

-- what divides the length, with turning by it changing nothing, repeats the reading
pub repeats-by : (w : List ℕ) (p : ℕ) → length w % p ≡ 0 → turn p w ≡ w → repeats_by w p ≡ true
unfolding repeats_by
repeats-by w p d t = both (eqb (length w % p) 0) (same (turn p w) w) (eq-eqb (length w % p) 0 d) (true_same (turn p w) w t)

-- where turning by p changes nothing, turning by a multiple of p changes nothing
pub multiple-turn : (w : List ℕ) (p : ℕ) → turn p w ≡ w → (q : ℕ) → q * p ≤ length w → turn (q * p) w ≡ w
multiple-turn w p t zero h = rw zero-mul (turn-zero w)
multiple-turn w p t (suc q) h =
    let e : suc q * p ≡ p + q * p = rw suc-mul (omega arith) in
    rw e (sym (turn-turn p (q * p) w (omega arith)) ∙ ap (turn (q * p)) t ∙ multiple-turn w p t q (omega arith))

-- where turning by p changes nothing, turning by i is turning by what i leaves over p
pub rest-turn : (w : List ℕ) (p : ℕ) → turn p w ≡ w → (i : ℕ) → i ≤ length w → turn (i % p) w ≡ turn i w
rest-turn w p t i h =
    let e = div-add-mod' i p in
    ap (turn (i % p)) (sym (multiple-turn w p t (i / p) (omega arith))) ∙ turn-turn (i / p * p) (i % p) w (omega arith) ∙ ap (λ m. turn m w) e

-- ---- the period is the least such number

-- the period is at least 1
pub period-pos : (w : List ℕ) → 0 < period w
unfolding period
period-pos w = omega arith

-- what repeats a reading is not below its period
pub period-least : (w : List ℕ) (p : ℕ) → 0 < p → length w % p ≡ 0 → turn p w ≡ w → period w ≤ p
unfolding period
period-least w zero z d t = absurd (omega arith)
period-least w (suc p) z d t =
    elim (tri p (least (length w) (λ i. repeats_by w (suc i)))) [
      | lt l ↦ clash (repeats_by w (suc p)) (repeats-by w (suc p) d t) (least-none (length w) (λ i. repeats_by w (suc i)) p l)
      | eq l ↦ omega arith
      | gt l ↦ omega arith
    ]

module _ (w : List ℕ) (z : 0 < length w) where
  -- the period is at most the length
  pub period-le : period w ≤ length w
  period-le = period-least w (length w) z (mod_self (length w)) (turn-length w)

  period-repeats : repeats_by w (period w) ≡ true
  unfolding period
  period-repeats = least_at (length w) (λ i. repeats_by w (suc i)) (omega (arith, period-le))

  -- the period divides the length
  pub period-divides : length w % period w ≡ 0
  period-divides = repeats-divides w (period w) period-repeats

  -- turning by the period changes nothing
  pub period-turn : turn (period w) w ≡ w
  period-turn = repeats-turn w (period w) period-repeats

  -- turning by the period more changes nothing
  pub period-on : (i : ℕ) → period w + i ≤ length w → turn (period w + i) w ≡ turn i w
  period-on i h = sym (turn-turn (period w) i w h) ∙ ap (turn i) period-turn

  -- turning by the period any number of times changes nothing
  pub period-turns : (q : ℕ) → q * period w ≤ length w → turn (q * period w) w ≡ w
  period-turns q h = multiple-turn w (period w) period-turn q h

-- what repeats a reading repeats its turns
pub repeats-of-turn : (w : List ℕ) (i p : ℕ) → i ≤ length w → p ≤ length w → turn p w ≡ w → turn p (turn i w) ≡ turn i w
repeats-of-turn w i p h k t = turn-comm i p w h k ∙ ap (turn i) t

-- a turn's period is not greater
period-turn-le : (w : List ℕ) (i : ℕ) → 0 < length w → i ≤ length w → period (turn i w) ≤ period w
period-turn-le w i z h =
    period-least (turn i w) (period w) (period-pos w) (rw (length-turn i w h) (period-divides w z)) (repeats-of-turn w i (period w) h (period-le w z) (period-turn w z))

-- turning a reading does not change its period
pub period-of-turn : (w : List ℕ) (i : ℕ) → 0 < length w → i ≤ length w → period (turn i w) ≡ period w
period-of-turn w i z h =
    let back = period-turn-le (turn i w) (length w - i) (rw (length-turn i w h) z) (rw (length-turn i w h) (omega arith)) in
    omega (arith, period-turn-le w i z h, rw (turn-back i w h) at back)

-- ---- the period measures the turns that change nothing

-- the least number of turns, at least 1, that changes nothing, whether or not it divides the length
unfoldable pub turns_back : List ℕ → ℕ
turns_back w = suc (least (length w) (λ i. same (turn (suc i) w) w))

module _ (w : List ℕ) (z : 0 < length w) where
  -- no fewer turns than that, but for none, change nothing
  pub back-least : (i : ℕ) → 0 < i → turn i w ≡ w → turns_back w ≤ i
  unfolding turns_back
  back-least zero y t = absurd (omega arith)
  back-least (suc i) y t =
      elim (tri i (least (length w) (λ i. same (turn (suc i) w) w))) [
        | lt l ↦ clash (same (turn (suc i) w) w) (true_same (turn (suc i) w) w t) (least-none (length w) (λ i. same (turn (suc i) w) w) i l)
        | eq l ↦ omega arith
        | gt l ↦ omega arith
      ]

  back-turn : turn (turns_back w) w ≡ w
  unfolding turns_back
  back-turn = same_true (turn (turns_back w) w) w (least_at (length w) (λ i. same (turn (suc i) w) w) (omega (arith, back-least (length w) z (turn-length w))))

  back-pos : 0 < turns_back w
  unfolding turns_back
  back-pos = omega arith

  -- it leaves nothing over of any number of turns that changes nothing: what it leaves is less and changes nothing
  back-measures : (i : ℕ) → i ≤ length w → turn i w ≡ w → i % turns_back w ≡ 0
  back-measures i h t =
      elim (tri 0 (i % turns_back w)) [
        | lt l ↦ absurd (omega (arith, mod-lt i back-pos, back-least (i % turns_back w) l (rest-turn w (turns_back w) back-turn i h ∙ t)))
        | eq l ↦ sym l
        | gt l ↦ absurd (omega arith)
      ]

  -- so it is the period
  pub period-back : period w ≡ turns_back w
  period-back =
      omega (arith, period-least w (turns_back w) back-pos (back-measures (length w) (omega arith) (turn-length w)) back-turn, back-least (period w) (period-pos w) (period-turn w z))

  -- no fewer turns than the period, but for none, change nothing
  pub period-smallest : (i : ℕ) → 0 < i → turn i w ≡ w → period w ≤ i
  period-smallest i y t = rw period-back (back-least i y t)

  -- where turning by i changes nothing, the period divides i
  pub period-measures : (i : ℕ) → i ≤ length w → turn i w ≡ w → i % period w ≡ 0
  period-measures i h t = rw period-back (back-measures i h t)

  -- where the period divides i, turning by i changes nothing
  pub measured-turn : (i : ℕ) → i ≤ length w → i % period w ≡ 0 → turn i w ≡ w
  measured-turn i h d = sym (rest-turn w (period w) (period-turn w z) i h) ∙ rw d (turn-zero w)
