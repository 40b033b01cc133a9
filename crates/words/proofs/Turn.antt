-- Laws of turns (specs/Turn), for i up to the length of w.
--     length-turn, turn_low, turn-high, get_d-turn-low, get_d-turn-high    length and sectors of a turn
--     turn-zero, turn-length, turn_one, turn_suc                         turning by i is i times turning by one
--     turn-turn, turn-turn-past, turn-back, turn-comm                    turns of turns
--     turn-again, turn-between                                           a turn of a turn is a turn, and each is one of each other
--     reading-turn, reading-reverse                                      a turn of a reading, and its reversal, are readings
--     get_d_reverse, reverse-turn                                         sectors and turns of the reversal
use Rattle.words.proofs.Plain.{ℕ, zero, suc, ◌+◌, ◌-◌, ◌<◌, ◌≤◌, add-one, arith, ◌≡◌, refl, sym, ap, ◌∙◌, List, [], ◌∷◌, ◌++◌, reverse, append-nil}
use Rattle.words.proofs.Plain.{append_assoc, reverse-cons, reverse-append, length, take, drop, get_or, length-append, length-take, length-drop}
use Rattle.words.proofs.Plain.{length-reverse, take-append-drop, List·get_d-append, take-length, drop-length, take-append-le, drop-append-le, take_at}
use Rattle.words.proofs.Plain.{drop_at, take-add, drop-drop, get_or-append-add, get_or-append_seam, get_or-take, get_or-drop}
use Rattle.words.specs.{Turn.turn, Readings.Reading}
use Rattle.words.proofs.Split.{Tri, lt, eq, gt, tri}
use Rattle.words.proofs.Sequence.{sec, place}

-- ---- length and sectors

-- a turn has the length of the reading
pub length-turn : (i : ℕ) (w : List ℕ) → i ≤ length w → length (turn i w) ≡ length w
unfolding turn
length-turn i w h = simp (length-append, length-drop, length-take) (omega arith)

-- up to the end of the reading, a turn has the sectors from place i on
pub turn_low : (i : ℕ) (w : List ℕ) (m j : ℕ) → i + m ≡ j → j < length w → get_or (turn i w) m 0 ≡ get_or w j 0
unfolding turn
turn_low i w m j e h =
    List·get_d-append (drop i w) (take i w) 0 m (simp length-drop (omega arith)) ∙ get_or-drop i w m 0 ∙ place (sec w) (i + m) j e

-- past the end of the reading, a turn has the sectors from the first place on
pub turn-high : (i : ℕ) (w : List ℕ) → i ≤ length w → (m j : ℕ) → i + m ≡ length w + j → m < length w → get_or (turn i w) m 0 ≡ get_or w j 0
unfolding turn
turn-high i w l m j e h =
    place (sec (drop i w ++ take i w)) m (length (drop i w) + j) (simp length-drop (omega arith)) ∙ get_or-append-add (drop i w) (take i w) j 0 ∙ get_or-take i w j 0 (omega arith)

-- the same, with the place in the reading computed
pub get_d-turn-low : (i : ℕ) (w : List ℕ) (m : ℕ) → i + m < length w → get_or (turn i w) m 0 ≡ get_or w (i + m) 0
get_d-turn-low i w m h = turn_low i w m (i + m) refl h

-- the same, with the place in the reading computed
pub get_d-turn-high : (i : ℕ) (w : List ℕ) → i ≤ length w → (m : ℕ) → length w ≤ i + m → m < length w → get_or (turn i w) m 0 ≡ get_or w (i + m - length w) 0
get_d-turn-high i w l m h k = turn-high i w l m (i + m - length w) (omega arith) k

-- ---- turning by i is i times turning by one

-- turning by nothing changes nothing
pub turn-zero : (w : List ℕ) → turn 0 w ≡ w
unfolding turn
turn-zero w = append-nil w

-- turning by the length changes nothing
pub turn-length : (w : List ℕ) → turn (length w) w ≡ w
unfolding turn
turn-length w = rw (drop-length w, take-length w)

-- turning by one moves the first sector to the end
pub turn_one : (a : ℕ) (w : List ℕ) → turn 1 (a ∷ w) ≡ w ++ (a ∷ [])
unfolding turn
turn_one a w = refl

-- ---- turns of turns

-- turning by i and then by j is turning by i + j, up to the length
pub turn-turn : (i j : ℕ) (w : List ℕ) → i + j ≤ length w → turn j (turn i w) ≡ turn (i + j) w
unfolding turn
turn-turn i j w h = rw (drop-append-le j (drop i w) (take i w) fits, take-append-le j (drop i w) (take i w) fits, append_assoc, drop-drop, ← take-add i j w)
  where
    fits : j ≤ length (drop i w)
    fits = simp length-drop (omega arith)

-- one more turn is a turn by one
pub turn_suc : (i : ℕ) (w : List ℕ) → i < length w → turn (suc i) w ≡ turn 1 (turn i w)
turn_suc i w h = rw (turn-turn i 1 w (omega arith), add-one)

-- a turn, turned on to the length, is the reading again
pub turn-back : (i : ℕ) (w : List ℕ) → i ≤ length w → turn (length w - i) (turn i w) ≡ w
turn-back i w h = let e : i + (length w - i) ≡ length w = omega arith in turn-turn i (length w - i) w (omega arith) ∙ rw (e, turn-length w)

-- turning by i and then by j, past the length, is turning by what is past it
pub turn-turn-past : (i j m : ℕ) (w : List ℕ) → i ≤ length w → j ≤ length w → i + j ≡ length w + m → turn j (turn i w) ≡ turn m w
turn-turn-past i j m w h k e =
    let s : j ≡ (length w - i) + m = omega arith in rw (s, ← turn-turn (length w - i) m (turn i w) (rw (length-turn i w h) (omega arith)), turn-back i w h)

-- two turns may change places
pub turn-comm : (i j : ℕ) (w : List ℕ) → i ≤ length w → j ≤ length w → turn j (turn i w) ≡ turn i (turn j w)
turn-comm i j w h k =
    elim (tri (i + j) (length w)) [
      | lt l ↦ turn-turn i j w (omega arith) ∙ sym (turn-turn j i w (omega arith) ∙ ap (λ m. turn m w) (omega arith))
      | eq l ↦ turn-turn i j w (omega arith) ∙ sym (turn-turn j i w (omega arith) ∙ ap (λ m. turn m w) (omega arith))
      | gt l ↦ turn-turn-past i j (i + j - length w) w h k (omega arith) ∙ sym (turn-turn-past j i (i + j - length w) w k h (omega arith))
    ]

-- a turn of a turn is a turn by less than the length
pub turn-again : (i j : ℕ) (w : List ℕ) → 0 < length w → i ≤ length w → j ≤ length w → (m : ℕ) × (m < length w) × (turn j (turn i w) ≡ turn m w)
turn-again i j w z h k =
    elim (tri (i + j) (length w)) [
      | lt l ↦ (i + j, l, turn-turn i j w (omega arith))
      | eq l ↦ (0, z, turn-turn-past i j 0 w h k (omega arith))
      | gt l ↦ past (tri (i + j - length w) (length w)) l
    ]
  where
    past : Tri (i + j - length w) (length w) → length w < i + j → (m : ℕ) × (m < length w) × (turn j (turn i w) ≡ turn m w)
    past (lt e) l = (i + j - length w, e, turn-turn-past i j (i + j - length w) w h k (omega arith))
    past (eq e) l = (0, z, turn-turn-past i j (length w) w h k (omega arith) ∙ turn-length w ∙ sym (turn-zero w))
    past (gt e) l = absurd (omega arith)

-- each turn is a turn of each other turn
pub turn-between : (i j : ℕ) (w : List ℕ) → 0 < length w → i ≤ length w → j ≤ length w → (m : ℕ) × (m < length w) × (turn m (turn i w) ≡ turn j w)
turn-between i j w z h k = back (turn-again (length w - i) j (turn i w) (rw (length-turn i w h) z) (rw (length-turn i w h) (omega arith)) (rw (length-turn i w h) k))
  where
    back : (m : ℕ) × (m < length (turn i w)) × (turn j (turn (length w - i) (turn i w)) ≡ turn m (turn i w)) → (m : ℕ) × (m < length w) × (turn m (turn i w) ≡ turn j w)
    back (m, l, e) = (m, rw (length-turn i w h) at l, sym e ∙ ap (turn j) (turn-back i w h))

-- ---- readings

-- a turn of a reading is a reading
pub reading-turn : (n k : ℕ) (w : List ℕ) → Reading n k w → (i : ℕ) → i ≤ n → Reading n k (turn i w)
reading-turn n k w r i h = record { long = length-turn i w (omega arith) ∙ r.long; shades = shaded }
  where
    shaded : (m : ℕ) → m < n → get_or (turn i w) m 0 < k
    shaded m l =
        elim (tri (i + m) n) [
          | lt e ↦ rw (get_d-turn-low i w m (omega arith)) (r.shades (i + m) e)
          | eq e ↦ rw (turn-high i w (omega arith) m 0 (omega arith) (omega arith)) (r.shades 0 (omega arith))
          | gt e ↦ rw (turn-high i w (omega arith) m (i + m - n) (omega arith) (omega arith)) (r.shades (i + m - n) (omega arith))
        ]

-- the sectors of the reversal
pub get_d_reverse : (w : List ℕ) (m j : ℕ) → suc (m + j) ≡ length w → get_or (reverse w) m 0 ≡ get_or w j 0
get_d_reverse [] m j e = absurd (omega arith)
get_d_reverse (a ∷ w) m zero e =
    rw reverse-cons (place (sec (reverse w ++ (a ∷ []))) m (length (reverse w)) (rw length-reverse (omega arith)) ∙ get_or-append_seam (reverse w) a [] 0)
get_d_reverse (a ∷ w) m (suc j) e =
    rw reverse-cons (List·get_d-append (reverse w) (a ∷ []) 0 m (rw length-reverse (omega arith)) ∙ get_d_reverse w m j (omega arith))

-- the reversal of a reading is a reading
pub reading-reverse : (n k : ℕ) (w : List ℕ) → Reading n k w → Reading n k (reverse w)
reading-reverse n k w r =
    record { long = length-reverse w ∙ r.long; shades = λ i h. rw (get_d_reverse w i (n - suc i) (omega arith)) (r.shades (n - suc i) (omega arith)) }

-- the reversal of a turn is a turn of the reversal, the other way round
pub reverse-turn : (i j : ℕ) (w : List ℕ) → i + j ≡ length w → reverse (turn i w) ≡ turn j (reverse w)
unfolding turn
reverse-turn i j w e =
    reverse-append (drop i w) (take i w) ∙ sym (rw (whole, drop_at (reverse (drop i w)) (reverse (take i w)) j long, take_at (reverse (drop i w)) (reverse (take i w)) j long))
  where
    whole : reverse w ≡ reverse (drop i w) ++ reverse (take i w)
    whole = ap reverse (sym (take-append-drop i w)) ∙ reverse-append (take i w) (drop i w)

    long : length (reverse (drop i w)) ≡ j
    long = rw (length-reverse, length-drop) (omega arith)
