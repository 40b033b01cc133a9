-- The full walk by bracelets from the all-zero ring, that ring included (02, request c).
--     mirror-back, mirror-one, mirror-other    of a necklace and its mirror image one is a bracelet, and if both are they are one
--     even-itself, even-bracelet               a necklace is even-handed exactly where its mirror image is itself; it is a bracelet then
--     zeros-first, zeros-bracelet              the all-zero ring is the first bracelet
--     walk-bracelets        all that appear are bracelets
--     walk-order            in increasing order
--     bracelet-once         each bracelet appears exactly once
--     walk-pairs            of each ring and its mirror image exactly one appears, exactly once
--     walk-even             each even-handed ring appears, exactly once: it stands for itself
use Rattle.words.proofs.Plain.{ℕ, ◌<◌, arith, ◌≡◌, sym, ap, subst, ◌∙◌, ◌↔◌, Bool, true, false, ◌||◌, List, ◌∷◌, length}
use Rattle.words.specs.Order.{before, up_to, same}
use Rattle.words.specs.Readings.{Reading, total, count}
use Rattle.words.proofs.Split.{passes, fails, test, agree, either, left, right, either_left, either-right, forced}
use Rattle.words.proofs.Lex.{ahead, equal, behind, lex, same_refl, same_true, true_same, up_to-refl, up_to-antisym, up_to-total, not-up_to, before-less}
use Rattle.words.proofs.Readings.{All, also, all-weaken, Increasing}
use Rattle.words.proofs.Count.{count-cong, count-zero}
use Rattle.rings.specs.{Necklace.necklace, Home.home, Home.shift, Steps.FullWalk}
use Rattle.rings.specs.Alike.{even_handed, mirrored, bracelet}
use Rattle.ring_laws.proofs.Moves.{before-not-same, after-not-same}
use Rattle.ring_laws.proofs.FullWalk.{zeros, length-zeros, zeros-at, zeros-reading, zeros-necklace, walk-kind, walk-increasing, walk-each}
use Rattle.ring_home_laws.proofs.Home.{shift-lt, home-turn-of, length-home, home-reading, home-necklace, necklace-home}
use Rattle.ring_home_laws.proofs.Alike.{length-mirrored, mirrored-reading, mirrored-necklace, mirrored-of-turn, mirrored-mirrored, even-mirrored, mirrored-even, even-home}
use Rattle.bracelet_laws.specs.Pairs.{of_pair, OneOfEachPair, EvenForItself}
use Rattle.bracelet_laws.proofs.Words.{bracelet-up_to, bracelet-both}

-- ---- a necklace and its mirror image

module _ (v : List ℕ) (z : 0 < length v) (h : necklace v ≡ true) where
  -- the mirror image's mirror image is the necklace
  pub mirror-back : mirrored (mirrored v) ≡ v
  mirror-back = mirrored-mirrored v z ∙ necklace-home v z h

  -- where both are bracelets they are one
  pub mirror-one : bracelet v ≡ true → bracelet (mirrored v) ≡ true → v ≡ mirrored v
  mirror-one p q = up_to-antisym v (mirrored v) (bracelet-up_to v p) (rw mirror-back at (bracelet-up_to (mirrored v) q))

  -- where the necklace is none, its mirror image is one
  pub mirror-other : up_to v (mirrored v) ≡ false → bracelet (mirrored v) ≡ true
  mirror-other e = bracelet-both (mirrored v) (mirrored-necklace v z) (rw mirror-back (up_to-total v (mirrored v) e))

  -- it is even-handed exactly where its mirror image is itself
  pub even-itself : (even_handed v ≡ true) ↔ (mirrored v ≡ v)
  even-itself = (λ e. even-mirrored v z e ∙ necklace-home v z h, λ e. mirrored-even v z (e ∙ sym (necklace-home v z h)))

  -- then it is a bracelet
  pub even-bracelet : even_handed v ≡ true → bracelet v ≡ true
  even-bracelet e = bracelet-both v h (rw (even-itself.0 e) (up_to-refl v))

-- ---- the all-zero ring

-- nothing is before it
pub zeros-first : (n : ℕ) (u : List ℕ) → length u ≡ n → before u (zeros n) ≡ true → ⊥
zeros-first n u e h = let l = before-less u (zeros n) (e ∙ sym (length-zeros n)) h in omega (arith, l.less, zeros-at n l.at)

-- it is a bracelet
pub zeros-bracelet : (n : ℕ) → 0 < n → bracelet (zeros n) ≡ true
zeros-bracelet n z =
    bracelet-both (zeros n) (zeros-necklace n) (forced (up_to (zeros n) (mirrored (zeros n))) (λ e.
    zeros-first n (mirrored (zeros n)) (length-mirrored (zeros n) (omega (arith, length-zeros n)) ∙ length-zeros n) (not-up_to (zeros n) (mirrored (zeros n)) e)))

-- ---- the walk

-- u is v or its mirror image
abbrev either-of : List ℕ → List ℕ → Bool
either-of v u = same v u || same (mirrored v) u

module _ (n k : ℕ) (z : 0 < n) (y : 0 < k) (rings : List (List ℕ)) (m : ℕ) (walk : FullWalk bracelet k (zeros n) rings m) where
  -- all that appear are bracelets of n and k
  pub walk-bracelets : All (λ u. Reading n k u × (bracelet u ≡ true)) (zeros n ∷ rings)
  walk-bracelets =
      also (zeros-reading n k y, zeros-bracelet n z) (all-weaken (λ u a. (rw (length-zeros n) at a.0, a.1)) (walk-kind bracelet k walk))

  -- in increasing order
  pub walk-order : Increasing (zeros n ∷ rings)
  walk-order = walk-increasing bracelet k walk

  -- each bracelet exactly once
  pub bracelet-once : (u : List ℕ) → Reading n k u → bracelet u ≡ true → count (same u) (zeros n ∷ rings) ≡ 1
  unfolding total
  bracelet-once u r p =
      elim (lex (zeros n) u) [
        | ahead l ↦ rw (after-not-same u (zeros n) l) (omega (arith, walk-each bracelet k walk u (rw (length-zeros n) r) p l))
        | equal e ↦ rw (← e, same_refl (zeros n)) (omega (arith, count-zero (same u) rings (λ x a. rw (← e) (before-not-same (zeros n) x a.2)) (walk-kind bracelet k walk)))
        | behind l ↦ absurd (zeros-first n u r.long l)
      ]

  -- of a necklace and its mirror image exactly one appears, exactly once
  module _ (v : List ℕ) (r : Reading n k v) (h : necklace v ≡ true) where
    long : 0 < length v
    long = omega (arith, r.long)

    itself : bracelet v ≡ true → count (either-of v) (zeros n ∷ rings) ≡ 1
    itself p = count-cong (either-of v) (same v) (zeros n ∷ rings) (λ u a. agree (either-of v u) (same v u) (only u a.1)
        (λ s. either_left (same v u) (same (mirrored v) u) s)) walk-bracelets ∙ bracelet-once v r p
      where
        only : (u : List ℕ) → bracelet u ≡ true → either-of v u ≡ true → same v u ≡ true
        only u q s =
            elim (either (same v u) (same (mirrored v) u) s) [
              | left g ↦ g
              | right f g ↦ let e = same_true (mirrored v) u g in true_same v u (mirror-one v long h p (rw e q) ∙ e)
            ]

    other : bracelet (mirrored v) ≡ true → count (either-of v) (zeros n ∷ rings) ≡ 1
    other p =
        count-cong (either-of v) (same (mirrored v)) (zeros n ∷ rings) (λ u a. agree (either-of v u) (same (mirrored v) u) (only u a.1)
        (λ s. either-right (same v u) (same (mirrored v) u) s)) walk-bracelets ∙ bracelet-once (mirrored v) (mirrored-reading v long n k r) p
      where
        only : (u : List ℕ) → bracelet u ≡ true → either-of v u ≡ true → same (mirrored v) u ≡ true
        only u q s =
            elim (either (same v u) (same (mirrored v) u) s) [
              | left g ↦ let e = same_true v u g in true_same (mirrored v) u (sym (mirror-one v long h (rw e q) p) ∙ e)
              | right f g ↦ g
            ]

    necklace-pair : count (either-of v) (zeros n ∷ rings) ≡ 1
    necklace-pair = elim (test (up_to v (mirrored v))) [ passes e ↦ itself (bracelet-both v h e) | fails e ↦ other (mirror-other v long h e) ]

  -- of each ring and its mirror image exactly one appears, exactly once
  pub walk-pairs : OneOfEachPair n k (zeros n) rings
  unfolding of_pair
  walk-pairs v r =
      let p : 0 < length v = omega (arith, r.long) in
      let e : mirrored (home v) ≡ mirrored v = ap mirrored (home-turn-of v) ∙ mirrored-of-turn v p (shift v) (omega (arith, shift-lt v p)) in
      subst (λ x. count (λ u. same (home v) u || same x u) (zeros n ∷ rings) ≡ 1) e (necklace-pair (home v) (home-reading v p n k r) (home-necklace v p))

  -- an even-handed ring stands for itself
  pub walk-even : EvenForItself n k (zeros n) rings
  walk-even v r e =
      let p : 0 < length v = omega (arith, r.long) in
      let q : 0 < length (home v) = omega (arith, length-home v p) in
      bracelet-once (home v) (home-reading v p n k r) (even-bracelet (home v) q (home-necklace v p) (even-home v p ∙ e))
