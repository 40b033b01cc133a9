-- The search for the shift with two places. Two turns of the reading, by i and by a greater j, are compared sector by sector; m sectors agreed so far.
--     Seeks w i j m                the shift is i, or it is not below j
--     seeks-start, seeks-end       from the first two turns, until j is past the end: then the shift is i
--     seeks-smaller                the sector of the turn by i is smaller: j goes on behind the place of the difference
--     seeks-greater                it is greater: i goes on behind it, and at least to j
--     seeks-on, seeks-alike        it is equal: one place on, and at the last place the shift is i
use Rattle.words.proofs.Plain.{ℕ, ◌+◌, ◌-◌, ◌<◌, ◌≤◌, arith, ◌≡◌, sym, ◌∙◌, List, length, get_or, ext_get_or}
use Rattle.words.specs.Turn.{turn}
use Rattle.words.proofs.Split.{Tri, lt, eq, gt, tri}
use Rattle.words.proofs.Turn.{length-turn}
use Rattle.rings.specs.Home.{shift}
use Rattle.ring_home_laws.proofs.Home.{shift-lt}
use Rattle.ring_home_laws.proofs.Shift.{Below, never-shift, alike-shift}

-- no turn by less than j but that by i is the turn by the shift, and the turns by i and by j agree at the first m places
pub record Seeks (w : List ℕ) (i j m : ℕ) : Type 0 where
  pub order : i < j
  pub inside : i < length w
  pub short : m < length w
  pub agree : (x : ℕ) → x < m → get_or (turn i w) x 0 ≡ get_or (turn j w) x 0
  pub only : shift w < j → shift w ≡ i

-- of the turns by less than 1 there is one
pub seeks-start : (w : List ℕ) → 0 < length w → Seeks w 0 1 0
seeks-start w z = record { order = omega arith; inside = z; short = z; agree = λ x h. absurd (omega arith); only = λ h. omega arith }

-- past the end, that turn is the one by the shift
pub seeks-end : (w : List ℕ) (i j m : ℕ) → Seeks w i j m → length w ≤ j → i ≡ shift w
seeks-end w i j m s h = sym (s.only (omega (arith, shift-lt w (omega (arith, s.inside)))))

-- at place m, x is the sector of the turn by i and y that of the turn by j
module _ (w : List ℕ) (i j m x y : ℕ) (s : Seeks w i j m) (l : j < length w) (e : x ≡ get_or (turn i w) m 0) (d : y ≡ get_or (turn j w) m 0) where
  z : 0 < length w
  z = omega arith

  -- the turn by i is smaller: the shift is none of j, .., j + m
  pub seeks-smaller : x < y → Seeks w i (j + (m + 1)) 0
  seeks-smaller h = record { order = omega (arith, s.order); inside = s.inside; short = z; agree = λ x h. absurd (omega arith); only = only }
    where
      below : Below (turn i w) (turn j w) m
      below = record { inside = omega (arith, length-turn j w (omega arith), s.short); agree = s.agree; less = omega arith }

      only : shift w < j + (m + 1) → shift w ≡ i
      only k =
          elim (tri (shift w) j) [
            | lt o ↦ s.only o
            | eq o ↦ absurd (never-shift w i j m (shift w - j) (omega (arith, s.inside)) (omega arith) below (omega arith) (omega arith))
            | gt o ↦ absurd (never-shift w i j m (shift w - j) (omega (arith, s.inside)) (omega arith) below (omega arith) (omega arith))
          ]

  -- the turn by j is smaller: the shift is none of i, .., i + m, and so it is not below j; q is the greater of i + m + 1 and j
  pub seeks-greater : y < x → (q : ℕ) → j ≤ q → i + m + 1 ≤ q → ((b : ℕ) → j ≤ b → i + m + 1 ≤ b → q ≤ b) → Seeks w q (q + 1) 0
  seeks-greater h q f g u = record { order = omega arith; inside = omega (arith, least, shift-lt w z); short = z; agree = λ x h. absurd (omega arith); only = λ k. omega (arith, least) }
    where
      below : Below (turn j w) (turn i w) m
      below = record { inside = omega (arith, length-turn i w (omega (arith, s.inside)), s.short); agree = λ x k. sym (s.agree x k); less = omega arith }

      from : i ≤ shift w
      from = elim (tri (shift w) j) [ lt o ↦ omega (arith, s.only o) | eq o ↦ omega (arith, s.order) | gt o ↦ omega (arith, s.order) ]

      past : i + m + 1 ≤ shift w
      past =
          elim (tri (i + m) (shift w)) [
            | lt o ↦ omega arith
            | eq o ↦ absurd (never-shift w j i m (shift w - i) (omega arith) (omega (arith, s.inside)) below (omega (arith, from)) (omega (arith, from)))
            | gt o ↦ absurd (never-shift w j i m (shift w - i) (omega arith) (omega (arith, s.inside)) below (omega (arith, from)) (omega (arith, from)))
          ]

      least : q ≤ shift w
      least = u (shift w) (elim (tri (shift w) j) [ lt o ↦ absurd (omega (arith, s.only o, past)) | eq o ↦ omega arith | gt o ↦ omega arith ]) past

  -- one place more at which the turns agree
  more : x ≡ y → (p : ℕ) → p < m + 1 → get_or (turn i w) p 0 ≡ get_or (turn j w) p 0
  more h p k = elim (tri p m) [ lt o ↦ s.agree p o | eq o ↦ rw o (sym e ∙ h ∙ d) | gt o ↦ absurd (omega arith) ]

  -- the turns agree at one place more
  pub seeks-on : x ≡ y → (m + 1 ≡ length w → ⊥) → Seeks w i j (m + 1)
  seeks-on h n = record { order = s.order; inside = s.inside; short = less (tri (m + 1) (length w)); agree = more h; only = s.only }
    where
      less : Tri (m + 1) (length w) → m + 1 < length w
      less (lt o) = o
      less (eq o) = absurd (n o)
      less (gt o) = absurd (omega (arith, s.short))

  -- the turns agree at every place: the shift is less than j
  pub seeks-alike : x ≡ y → m + 1 ≡ length w → i ≡ shift w
  seeks-alike h k = elim (tri (shift w) j) [
    | lt o ↦ sym (s.only o)
    | eq o ↦ absurd (alike-shift w i j z s.order one (omega arith))
    | gt o ↦ absurd
        (alike-shift w i j z s.order one (omega arith))
  ]
    where
      left : length (turn i w) ≡ length w
      left = length-turn i w (omega (arith, s.inside))

      one : turn i w ≡ turn j w
      one = ext_get_or 0 (turn i w) (turn j w) (left ∙ sym (length-turn j w (omega arith))) (λ p o. more h p (omega (arith, left)))
