-- The search for the period.
--     Unrepeated w p, unrepeated-start, unrepeated-more            nothing below p repeats w
--     unrepeated-found, unrepeated-end                             then what repeats w is its period, and so is the length
--     repeats-not, repeats-same                                    whether p repeats w, by its two tests
use Rattle.words.proofs.Plain.{ℕ, ◌+◌, ◌%◌, ◌<◌, ◌≤◌, arith, ◌≡◌, sym, true, false, List, length, eq-eqb, ne_eqb}
use Rattle.words.specs.{Order.same, Turn.turn}
use Rattle.words.proofs.Split.{lt, eq, gt, tri, clash}
use Rattle.words.proofs.Turn.{turn-zero}
use Rattle.rings.specs.Necklace.{repeats_by, period}
use Rattle.ring_home_laws.proofs.Period.{period-pos, period-le, period-least, period-divides, period-turn, repeats-by, repeats-divides, repeats-turn}

-- where p does not divide the length, it does not repeat the reading
pub repeats-not : (w : List ℕ) (p : ℕ) → (length w % p ≡ 0 → ⊥) → false ≡ repeats_by w p
unfolding repeats_by
repeats-not w p h = rw (ne_eqb (length w % p) 0 h)

-- where it does, the turn decides
pub repeats-same : (w : List ℕ) (p : ℕ) → length w % p ≡ 0 → same (turn p w) (turn 0 w) ≡ repeats_by w p
unfolding repeats_by
repeats-same w p h = rw (eq-eqb (length w % p) 0 h, turn-zero w)

-- nothing from 1 up to but not including p repeats the reading
pub record Unrepeated (w : List ℕ) (p : ℕ) : Type 0 where
  pub pos : 0 < p
  pub fits : p ≤ length w
  pub none : (j : ℕ) → 0 < j → j < p → repeats_by w j ≡ false

-- below 1 there is nothing
pub unrepeated-start : (w : List ℕ) → 0 < length w → Unrepeated w 1
unrepeated-start w z = record { pos = omega arith; fits = omega arith; none = λ j h l. absurd (omega arith) }

-- one number more that does not repeat the reading
pub unrepeated-more : (w : List ℕ) (p : ℕ) → Unrepeated w p → p < length w → false ≡ repeats_by w p → Unrepeated w (p + 1)
unrepeated-more w p u l f = record { pos = omega arith; fits = omega arith; none = at }
  where
    at : (j : ℕ) → 0 < j → j < p + 1 → repeats_by w j ≡ false
    at j z h = elim (tri j p) [ lt e ↦ u.none j z e | eq e ↦ rw e (sym f) | gt e ↦ absurd (omega arith) ]

-- no number that nothing below repeats is above the period
unrepeated-le : (w : List ℕ) (p : ℕ) → Unrepeated w p → p ≤ period w
unrepeated-le w p u =
    elim (tri (period w) p) [
      | lt l ↦ clash (repeats_by w (period w)) (repeats-by w (period w) (period-divides w long) (period-turn w long)) (u.none (period w) (period-pos w) l)
      | eq l ↦ omega arith
      | gt l ↦ omega arith
    ]
  where
    long : 0 < length w
    long = omega (arith, u.pos, u.fits)

-- what repeats the reading, with nothing below it repeating it, is the period
pub unrepeated-found : (w : List ℕ) (p : ℕ) → Unrepeated w p → true ≡ repeats_by w p → p ≡ period w
unrepeated-found w p u t =
    omega (arith, unrepeated-le w p u, period-least w p u.pos (repeats-divides w p (sym t)) (repeats-turn w p (sym t)))

-- where nothing below the length repeats the reading, the length is the period
pub unrepeated-end : (w : List ℕ) (p : ℕ) → Unrepeated w p → length w ≤ p → length w ≡ period w
unrepeated-end w p u h = omega (arith, unrepeated-le w p u, period-le w (omega (arith, u.pos, u.fits)), u.fits)
