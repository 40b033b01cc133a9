-- How far apart rings are, seen from the front and from the other side.
--     differing-reverse                 two reversed readings differ at as many places
--     apart-reverse                     and are as far apart
--     apart-home, apart-home-right      bringing a reading home does not change how far apart it is from another
--     apart-mirrored                    seen from the other side two rings are as far apart
--     other-side                        a reading is as far from the other side of a ring as its reversal is from the ring
--     turn_near                         a reading that, turned, differs from w at no more than e places is at most e apart from it
use Rattle.words.proofs.Plain.{ℕ, ◌-◌, ◌<◌, ◌≤◌, arith, ◌≡◌, refl, sym, ap, ◌∙◌, List, [], ◌∷◌, reverse, reverse-cons, reverse-reverse, length, length-reverse}
use Rattle.words.specs.Turn.{turn}
use Rattle.words.proofs.Split.{lt, eq, gt, tri}
use Rattle.words.proofs.Turn.{length-turn, turn-zero, reverse-turn}
use Rattle.rings.specs.Home.{home, shift}
use Rattle.rings.specs.Alike.{differing, apart, mirrored}
use Rattle.ring_home_laws.proofs.Home.{shift-lt, home-turn-of, length-home}
use Rattle.ring_home_laws.proofs.Alike.{differing-append, apart-le, apart-turn-le, apart-at, apart-turns-le, apart-of-turn, apart-of-turn-right}

-- two reversed readings differ at as many places
pub differing-reverse : (v w : List ℕ) → length v ≡ length w → differing (reverse v) (reverse w) ≡ differing v w
unfolding differing
differing-reverse [] [] e = refl
differing-reverse [] (b ∷ w) e = absurd (omega arith)
differing-reverse (a ∷ v) [] e = absurd (omega arith)
differing-reverse (a ∷ v) (b ∷ w) e =
    let f : length v ≡ length w = omega arith in
    rw (reverse-cons a v, reverse-cons b w)
    (differing-append (reverse v) (a ∷ []) (reverse w) (b ∷ []) (length-reverse v ∙ f ∙ sym (length-reverse w)) ∙ omega (arith, differing-reverse v w f))

-- reversed readings are no further apart
apart-reverse-le : (v w : List ℕ) → length v ≡ length w → apart (reverse v) (reverse w) ≤ apart v w
apart-reverse-le v w e =
    elim (tri 0 (length v)) [
      | lt z ↦ at (apart-at v w z)
      | eq z ↦ omega (arith, apart-le (reverse v) (reverse w), length-reverse v)
      | gt z ↦ absurd (omega arith)
    ]
  where
    at : (i : ℕ) × (i < length v) × (differing (turn i v) w ≡ apart v w) → apart (reverse v) (reverse w) ≤ apart v w
    at (i, l, d) =
        let f = rw (reverse-turn i (length v - i) v (omega arith)) at (differing-reverse (turn i v) w (length-turn i v (omega arith) ∙ e)) in
        let g = rw (turn-zero (reverse w)) at (apart-turns-le (reverse v) (reverse w) (length-reverse v ∙ e ∙ sym (length-reverse w)) (length v - i) 0
        (rw length-reverse (omega arith)) (omega arith)) in
        omega arith

-- reversed readings are as far apart
pub apart-reverse : (v w : List ℕ) → length v ≡ length w → apart (reverse v) (reverse w) ≡ apart v w
apart-reverse v w e =
    let back = rw (reverse-reverse v, reverse-reverse w) at (apart-reverse-le (reverse v) (reverse w) (length-reverse v ∙ e ∙ sym (length-reverse w))) in
    omega (arith, apart-reverse-le v w e)

-- bringing the first of two readings home does not change how far apart they are
pub apart-home : (v w : List ℕ) → 0 < length v → length v ≡ length w → apart (home v) w ≡ apart v w
apart-home v w z e = ap (λ (x : List ℕ). apart x w) (home-turn-of v) ∙ apart-of-turn v w (shift v) e (omega (arith, shift-lt v z))

-- nor does bringing the second home
pub apart-home-right : (v w : List ℕ) → 0 < length w → length v ≡ length w → apart v (home w) ≡ apart v w
apart-home-right v w z e = ap (apart v) (home-turn-of w) ∙ apart-of-turn-right v w (shift w) e (omega (arith, shift-lt w z))

module _ (v w : List ℕ) (z : 0 < length v) (e : length v ≡ length w) where
  left-long : 0 < length (reverse v)
  left-long = rw (length-reverse v) z

  right-long : 0 < length (reverse w)
  right-long = rw (length-reverse w) (omega arith)

  -- seen from the other side two rings are as far apart
  pub apart-mirrored : apart (mirrored v) (mirrored w) ≡ apart v w
  unfolding mirrored
  apart-mirrored =
      apart-home (reverse v) (home (reverse w)) left-long (length-reverse v ∙ e ∙ sym (length-home (reverse w) right-long ∙ length-reverse w))
      ∙ apart-home-right (reverse v) (reverse w) right-long (length-reverse v ∙ e ∙ sym (length-reverse w)) ∙ apart-reverse v w e

  -- a reading is as far from the other side of a ring as its reversal is from the ring
  pub other-side : apart v (mirrored w) ≡ apart (reverse v) w
  unfolding mirrored
  other-side =
      apart-home-right v (reverse w) right-long (e ∙ sym (length-reverse w))
      ∙ ap (λ (x : List ℕ). apart x (reverse w)) (sym (reverse-reverse v)) ∙ apart-reverse (reverse v) w (length-reverse v ∙ e)

-- a reading that, turned, differs from w at no more than x places is at most x apart from it
pub turn_near : (r w : List ℕ) (i x : ℕ) → i < length r → differing (turn i r) w ≤ x → apart r w ≤ x
turn_near r w i x l h = omega (arith, apart-turn-le r w i l)
