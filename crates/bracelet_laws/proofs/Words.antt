-- Bracelets by turns and by places.
--     bracelet-necklace, bracelet-up_to     what a bracelet is
--     bracelet-both                        and what is one
--     bracelet-turn, bracelet-mirror, turns-bracelet    a bracelet is not above any turn of it nor any turn of its reverse, and the other way round
--     bracelet-least                       so the two forms of a bracelet agree
--     turn_at, mirror-at                   the sectors of a turn and of a turned reverse
--     Brace a n                            the first n of a are not above any of their turns and mirrored turns
--     brace-of, of-brace                   bracelet w, and Brace of its sectors
use Rattle.words.proofs.Plain.{ℕ, ◌+◌, ◌-◌, ◌<◌, ◌≤◌, arith, ◌≡◌, refl, sym, subst, ◌∙◌, true, List, reverse, length, get_or, length-reverse}
use Rattle.words.specs.{Order.up_to, Turn.turn}
use Rattle.words.proofs.Split.{lt, eq, gt, tri, agree, both, both_left, both_right}
use Rattle.words.proofs.Search.{all-at, all_of}
use Rattle.words.proofs.Sequence.{sec, Less, recast}
use Rattle.words.proofs.Lex.{up_to-trans, up_to-not-less, not-less-up_to}
use Rattle.words.proofs.Turn.{length-turn, turn_low, turn-high, get_d_reverse}
use Rattle.rings.specs.{Necklace.necklace, Necklace.not_above_turn, Home.home, Home.shift}
use Rattle.rings.specs.Alike.{mirrored, bracelet, not_above_either, least_of_pair}
use Rattle.ring_home_laws.proofs.Home.{shift-lt, home-turn-of, home-least}
use Rattle.bracelet_laws.proofs.Places.{rot, mir, rot-lt, rot-low, rot-high}

-- ---- by turns

pub bracelet-necklace : (w : List ℕ) → bracelet w ≡ true → necklace w ≡ true
unfolding bracelet
bracelet-necklace w h = both_left (necklace w) (up_to w (mirrored w)) h

pub bracelet-up_to : (w : List ℕ) → bracelet w ≡ true → up_to w (mirrored w) ≡ true
unfolding bracelet
bracelet-up_to w h = both_right (necklace w) (up_to w (mirrored w)) h

pub bracelet-both : (w : List ℕ) → necklace w ≡ true → up_to w (mirrored w) ≡ true → bracelet w ≡ true
unfolding bracelet
bracelet-both w h k = both (necklace w) (up_to w (mirrored w)) h k

module _ (w : List ℕ) (z : 0 < length w) where
  around : 0 < length (reverse w)
  around = rw length-reverse z

  -- a bracelet is not above any turn of it
  pub bracelet-turn : bracelet w ≡ true → (i : ℕ) → i < length w → up_to w (turn i w) ≡ true
  unfolding necklace not_above_turn
  bracelet-turn h i l = all-at (length w) (not_above_turn w) (bracelet-necklace w h) i l

  -- nor above any turn of its reverse
  pub bracelet-mirror : bracelet w ≡ true → (i : ℕ) → i < length w → up_to w (turn i (reverse w)) ≡ true
  unfolding mirrored
  bracelet-mirror h i l =
      up_to-trans w (home (reverse w)) (turn i (reverse w)) (bracelet-up_to w h) (home-least (reverse w) around i (rw length-reverse l))

  -- what is above none of them is a bracelet
  pub turns-bracelet : ((i : ℕ) → i < length w → up_to w (turn i w) ≡ true) → ((i : ℕ) → i < length w → up_to w (turn i (reverse w)) ≡ true) → bracelet w ≡ true
  unfolding necklace not_above_turn mirrored
  turns-bracelet h k =
      bracelet-both w (all_of (length w) (not_above_turn w) h)
      (subst (λ v. up_to w v ≡ true) (sym (home-turn-of (reverse w))) (k (shift (reverse w)) (rw length-reverse at (shift-lt (reverse w) around))))

  -- a bracelet is the least among all turns of it and of its reverse, and that is one
  pub bracelet-least : bracelet w ≡ least_of_pair w
  unfolding least_of_pair not_above_either
  bracelet-least =
      agree (bracelet w) (least_of_pair w)
      (λ h. all_of (length w) (not_above_either w) (λ i l. both (up_to w (turn i w)) (up_to w (turn i (reverse w))) (bracelet-turn h i l) (bracelet-mirror h i l)))
      (λ h.
      turns-bracelet (λ i l. both_left (up_to w (turn i w)) (up_to w (turn i (reverse w))) (all-at (length w) (not_above_either w) h i l))
      (λ i l. both_right (up_to w (turn i w)) (up_to w (turn i (reverse w))) (all-at (length w) (not_above_either w) h i l)))

-- ---- by places

-- the sectors of a turn
pub turn_at : (i : ℕ) (w : List ℕ) (m : ℕ) → i < length w → m < length w → get_or (turn i w) m 0 ≡ get_or w (rot (length w) i m) 0
turn_at i w m h l =
    elim (tri (i + m) (length w)) [
      | lt e ↦ turn_low i w m (rot (length w) i m) (sym (rot-low (length w) i m e)) (rot-lt (length w) i m (omega arith))
      | eq e ↦ far (omega arith)
      | gt e ↦ far (omega arith)
    ]
  where
    far : length w ≤ i + m → get_or (turn i w) m 0 ≡ get_or w (rot (length w) i m) 0
    far e = turn-high i w (omega arith) m (rot (length w) i m) (omega (arith, rot-high (length w) i m e (omega arith))) l

-- the sectors of a turned reverse
pub mirror-at : (i : ℕ) (w : List ℕ) (m : ℕ) → i < length w → m < length w → get_or (turn i (reverse w)) m 0 ≡ get_or w (mir (length w) i m) 0
mirror-at i w m h l =
    turn_at i (reverse w) m (rw length-reverse h) (rw length-reverse l) ∙ rw length-reverse
    (get_d_reverse w (rot (length w) i m) (mir (length w) i m) (omega (arith, rot-lt (length w) i m (omega arith))))

-- the first n of a are not above any of their turns and mirrored turns
pub record Brace (a : ℕ → ℕ) (n : ℕ) : Type 0 where
  pub turns : (i : ℕ) → i < n → Less (λ m. a (rot n i m)) a n → ⊥
  pub mirrors : (i : ℕ) → i < n → Less (λ m. a (mir n i m)) a n → ⊥

module _ (w : List ℕ) (z : 0 < length w) where
  length-mirror : (i : ℕ) → i < length w → length w ≡ length (turn i (reverse w))
  length-mirror i h = sym (length-turn i (reverse w) (rw length-reverse (omega arith)) ∙ length-reverse w)

  pub brace-of : bracelet w ≡ true → Brace (sec w) (length w)
  brace-of h =
      record {
        turns = λ i b l. up_to-not-less w (turn i w) (sym (length-turn i w (omega arith))) (bracelet-turn w z h i b)
            (recast (λ m. sec w (rot (length w) i m)) (sec w) (sec (turn i w)) (sec w) (length w) (λ m c. sym (turn_at i w m b c)) (λ m c. refl) l);
        mirrors = λ i b l. up_to-not-less w (turn i (reverse w)) (length-mirror i b) (bracelet-mirror w z h i b)
            (recast (λ m. sec w (mir (length w) i m)) (sec w) (sec (turn i (reverse w))) (sec w) (length w) (λ m c. sym (mirror-at i w m b c)) (λ m c. refl) l);
      }

  pub of-brace : Brace (sec w) (length w) → bracelet w ≡ true
  of-brace brace =
      turns-bracelet w z (λ i b. not-less-up_to w (turn i w) (sym (length-turn i w (omega arith)))
      (λ l. brace.turns i b (recast (sec (turn i w)) (sec w) (λ m. sec w (rot (length w) i m)) (sec w) (length w) (λ m c. turn_at i w m b c) (λ m c. refl) l)))
      (λ i b. not-less-up_to w (turn i (reverse w)) (length-mirror i b)
      (λ l. brace.mirrors i b (recast (sec (turn i (reverse w))) (sec w) (λ m. sec w (mir (length w) i m)) (sec w) (length w) (λ m c. mirror-at i w m b c) (λ m c. refl) l)))
