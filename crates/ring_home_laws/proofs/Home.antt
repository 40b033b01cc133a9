-- The home reading and its shift (specs/Home of `rings`), of readings with at least one sector.
--     least-of                                        of finitely many readings, one is up to each
--     shift-lt, home-turn-of, length-home             the home reading is the turn by the shift, which is less than n
--     home-least, home-necklace, home-reading         it is the least turn, a necklace, and a reading where w is one
--     home-is, turn-necklace-home                     the turn that is least, and the turn that is a necklace, is the home reading
--     shift-first, shift_is, shift-below-period       the shift is the smallest number of turns that gives it, and is below the period
--     turn-back-home                                  turning the home reading on to the length gives the reading again
--     home-of-turn, home-home, period-home            turns change neither home reading nor period
--     necklace-shift, necklace-home                   a necklace is its own home reading
--     one-home-turn, turn-one-home                    readings of one length have one home reading exactly where one is a turn of the other
use Rattle.words.proofs.Plain.{ℕ, zero, suc, ◌+◌, ◌-◌, ◌<◌, ◌≤◌, arith, ◌≡◌, refl, subst, sym, ap, ◌∙◌, true, false, List, length}
use Rattle.words.specs.{Search.least, Order.up_to, Turn.turn, Readings.Reading}
use Rattle.words.proofs.Split.{passes, fails, test, lt, eq, gt, tri, clash}
use Rattle.words.proofs.Search.{all-at, all_of, least_at, least-none, least_lt}
use Rattle.words.proofs.Sequence.{one_more}
use Rattle.words.proofs.Lex.{up_to-refl, up_to-trans, up_to-total, up_to-antisym}
use Rattle.words.proofs.Turn.{length-turn, turn-zero, turn-back, turn-again, turn-between, reading-turn}
use Rattle.rings.specs.Necklace.{not_above_turn, necklace, period}
use Rattle.rings.specs.Home.{least_turn, shift, home}
use Rattle.ring_home_laws.proofs.Period.{period-pos, period-on, period-of-turn}

-- of finitely many readings, one is up to each
pub least-of : (g : ℕ → List ℕ) (n : ℕ) → 0 < n → (i : ℕ) × (i < n) × ((j : ℕ) → j < n → up_to (g i) (g j) ≡ true)
least-of g zero z = absurd (omega arith)
least-of g (suc zero) z = (0, omega arith, λ j h. let e : j ≡ 0 = omega arith in rw e (up_to-refl (g 0)))
least-of g (suc (suc n)) z = wider (least-of g (suc n) (omega arith))
  where
    wider : (i : ℕ) × (i < suc n) × ((j : ℕ) → j < suc n → up_to (g i) (g j) ≡ true) →
        (i : ℕ) × (i < suc (suc n)) × ((j : ℕ) → j < suc (suc n) → up_to (g i) (g j) ≡ true)
    wider (i, l, h) =
        elim (test (up_to (g i) (g (suc n)))) [
          | passes e ↦ (i, omega arith, one_more (λ j. up_to (g i) (g j) ≡ true) (suc n) h e)
          | fails e ↦ (
            suc n,
            omega arith,
            one_more (λ j. up_to (g (suc n)) (g j) ≡ true) (suc n)
                (λ j k. up_to-trans (g (suc n)) (g i) (g j) (up_to-total (g i) (g (suc n)) e) (h j k)) (up_to-refl (g (suc n))),
          )
        ]

-- the turn by i is the least turn, as a fact
least-turn-of : (w : List ℕ) (i : ℕ) → ((j : ℕ) → j < length w → up_to (turn i w) (turn j w) ≡ true) → least_turn w i ≡ true
unfolding least_turn
least-turn-of w i h = all_of (length w) (λ j. up_to (turn i w) (turn j w)) h

of-least-turn : (w : List ℕ) (i : ℕ) → least_turn w i ≡ true → (j : ℕ) → j < length w → up_to (turn i w) (turn j w) ≡ true
unfolding least_turn
of-least-turn w i h = all-at (length w) (λ j. up_to (turn i w) (turn j w)) h

-- the home reading is the turn by the shift
pub home-turn-of : (w : List ℕ) → home w ≡ turn (shift w) w
unfolding home
home-turn-of w = refl

module _ (w : List ℕ) (z : 0 < length w) where
  -- the shift is less than the length
  pub shift-lt : shift w < length w
  unfolding shift
  shift-lt = found (least-of (λ i. turn i w) (length w) z)
    where
      found : (i : ℕ) × (i < length w) × ((j : ℕ) → j < length w → up_to (turn i w) (turn j w) ≡ true) → least (length w) (least_turn w) < length w
      found (i, l, h) = least_lt (length w) (least_turn w) i l (least-turn-of w i h)

  -- the home reading has the length of the reading
  pub length-home : length (home w) ≡ length w
  unfolding home
  length-home = length-turn (shift w) w (omega (arith, shift-lt))

  -- the home reading of a reading is a reading
  pub home-reading : (n k : ℕ) → Reading n k w → Reading n k (home w)
  unfolding home
  home-reading n k r = reading-turn n k w r (shift w) (omega (arith, shift-lt, r.long))

  -- the home reading is not greater than any turn
  pub home-least : (j : ℕ) → j < length w → up_to (home w) (turn j w) ≡ true
  unfolding home shift
  home-least = of-least-turn w (shift w) (least_at (length w) (least_turn w) shift-lt)

  -- nor than any turn of a turn
  home-least-again : (i j : ℕ) → i ≤ length w → j ≤ length w → up_to (home w) (turn j (turn i w)) ≡ true
  home-least-again i j h k = let t = turn-again i j w z h k in rw t.2 (home-least t.0 t.1)

  -- a turn that is not greater than any turn is the home reading
  pub home-is : (i : ℕ) → i ≤ length w → ((j : ℕ) → j < length w → up_to (turn i w) (turn j w) ≡ true) → home w ≡ turn i w
  home-is i h l =
      up_to-antisym (home w) (turn i w) (rw turn-zero at (home-least-again i 0 h (omega arith))) (rw home-turn-of (l (shift w) shift-lt))

  -- the home reading is a necklace
  pub home-necklace : necklace (home w) ≡ true
  unfolding necklace not_above_turn
  home-necklace = all_of (length (home w)) (not_above_turn (home w)) not-above
    where
      not-above : (j : ℕ) → j < length (home w) → not_above_turn (home w) j ≡ true
      not-above j h = subst (λ v. up_to (home w) (turn j v) ≡ true) (sym (home-turn-of w)) (home-least-again (shift w) j (omega (arith, shift-lt)) (omega (arith, length-home)))

  -- turning the home reading on to the length gives the reading again
  pub turn-back-home : turn (length w - shift w) (home w) ≡ w
  unfolding home
  turn-back-home = turn-back (shift w) w (omega (arith, shift-lt))

  -- ---- the shift is the smallest

  -- no fewer turns than the shift give the home reading
  pub shift-first : (i : ℕ) → turn i w ≡ home w → shift w ≤ i
  unfolding shift
  shift-first i e =
      elim (tri i (shift w)) [
        | lt l ↦ clash (least_turn w i) (least-turn-of w i (λ j k. rw e (home-least j k))) (fewer l)
        | eq l ↦ omega arith
        | gt l ↦ omega arith
      ]
    where
      fewer : i < shift w → least_turn w i ≡ false
      fewer l = least-none (length w) (least_turn w) i l

  -- what gives the home reading, with nothing fewer giving it, is the shift
  pub shift_is : (i : ℕ) → turn i w ≡ home w → ((j : ℕ) → j < i → turn j w ≡ home w → ⊥) → shift w ≡ i
  shift_is i e h =
      elim (tri (shift w) i) [ lt l ↦ absurd (h (shift w) l (sym (home-turn-of w))) | eq l ↦ l | gt l ↦ absurd (omega (arith, shift-first i e)) ]

  -- the shift is below the period
  pub shift-below-period : shift w < period w
  shift-below-period =
      elim (tri (shift w) (period w)) [ lt l ↦ l | eq l ↦ absurd (less (shift w - period w) (omega arith)) | gt l ↦ absurd (less (shift w - period w) (omega arith)) ]
    where
      less : (i : ℕ) → shift w ≡ period w + i → ⊥
      less i e =
          let h : turn i w ≡ home w = sym (home-turn-of w ∙ ap (λ m. turn m w) e ∙ period-on w z i (omega (arith, shift-lt))) in
          omega (arith, period-pos w, shift-first i h)

-- ---- turns have one home reading

-- turning a reading does not change its home reading
pub home-of-turn : (w : List ℕ) (i : ℕ) → 0 < length w → i ≤ length w → home (turn i w) ≡ home w
home-of-turn w i z h = up_to-antisym (home (turn i w)) (home w) one other
  where
    long : 0 < length (turn i w)
    long = rw (length-turn i w h) z

    one : up_to (home (turn i w)) (home w) ≡ true
    one =
        let t = turn-between i (shift w) w z h (omega (arith, shift-lt w z)) in
        subst (λ v. up_to (home (turn i w)) v ≡ true) (t.2 ∙ sym (home-turn-of w)) (home-least (turn i w) long t.0 (rw (length-turn i w h) t.1))

    other : up_to (home w) (home (turn i w)) ≡ true
    other =
        subst (λ v. up_to (home w) v ≡ true) (sym (home-turn-of (turn i w))) (home-least-again w z i (shift (turn i w)) h (omega (arith, shift-lt (turn i w) long, length-turn i w h)))

module _ (w : List ℕ) (z : 0 < length w) where
  -- the home reading is its own home reading
  pub home-home : home (home w) ≡ home w
  home-home = ap home (home-turn-of w) ∙ home-of-turn w (shift w) z (omega (arith, shift-lt w z))

  -- the home reading has the period of the reading
  pub period-home : period (home w) ≡ period w
  period-home = ap period (home-turn-of w) ∙ period-of-turn w (shift w) z (omega (arith, shift-lt w z))

  -- a necklace has shift 0
  pub necklace-shift : necklace w ≡ true → shift w ≡ 0
  unfolding necklace not_above_turn
  necklace-shift h =
      let e = home-is w z 0 (omega arith) (λ j l. rw turn-zero (all-at (length w) (not_above_turn w) h j l)) in omega (arith, shift-first w z 0 (sym e))

  -- a necklace is its own home reading
  pub necklace-home : necklace w ≡ true → home w ≡ w
  necklace-home h = home-turn-of w ∙ rw (necklace-shift h, turn-zero w)

-- a turn that is a necklace is the home reading
pub turn-necklace-home : (w : List ℕ) (i : ℕ) → 0 < length w → i ≤ length w → necklace (turn i w) ≡ true → home w ≡ turn i w
turn-necklace-home w i z l h = sym (home-of-turn w i z l) ∙ necklace-home (turn i w) (rw (length-turn i w l) z) h

-- readings of one length with one home reading are turns of one another
pub one-home-turn : (v w : List ℕ) → 0 < length w → length v ≡ length w → home v ≡ home w → (i : ℕ) × (i < length w) × (turn i w ≡ v)
one-home-turn v w z e h = turned (turn-again (shift w) (length v - shift v) w z (omega (arith, shift-lt w z)) (omega arith))
  where
    turned : (i : ℕ) × (i < length w) × (turn (length v - shift v) (turn (shift w) w) ≡ turn i w) → (i : ℕ) × (i < length w) × (turn i w ≡ v)
    turned (i, l, t) = (i, l, sym t ∙ ap (turn (length v - shift v)) (sym (home-turn-of w) ∙ sym h) ∙ turn-back-home v (omega arith))

-- a turn of a reading has its home reading
pub turn-one-home : (v w : List ℕ) (i : ℕ) → 0 < length w → i ≤ length w → turn i w ≡ v → home v ≡ home w
turn-one-home v w i z l h = ap home (sym h) ∙ home-of-turn w i z l
