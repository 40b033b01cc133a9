-- Every reading has one ring (02, request n), for every n and k of at least 1. Of the full walk by necklaces from the all-zero ring, that ring included:
--     walk-rings       it comes to necklaces of n and k only
--     walk-all         to each of them exactly once
--     walk_no          and to nothing else
--     one-ring         each reading is a turn of exactly one of its rings
--     period-sum       the periods of its rings add up to k ^ n
--     walk-one-ring    there is such a walk, and both hold of it
-- The first holds because a reading is a turn of its home reading and of no other necklace. The second counts the pairs of a ring and a turn of it: by
-- rings they are the periods, and by readings they are one for each.
use Rattle.words.proofs.Plain.{ℕ, ◌<◌, arith, ◌≡◌, sym, subst, ◌∙◌, true, false, List, ◌∷◌, length}
use Rattle.words.specs.Order.{before, same}
use Rattle.words.specs.Readings.{Reading, readings, bit, total, count}
use Rattle.words.proofs.Split.{clash}
use Rattle.words.proofs.Lex.{ahead, equal, behind, lex, same_refl, same_false, before-less}
use Rattle.words.proofs.Readings.{All, also, all-weaken, readings-all}
use Rattle.words.proofs.Count.{total-cong, count-cong, count-zero}
use Rattle.rings.specs.{Necklace.necklace, Necklace.period, Home.home, Steps.FullWalk}
use Rattle.ring_laws.proofs.Moves.{before-not-same, after-not-same}
use Rattle.ring_laws.proofs.FullWalk.{walk-exists, walk-kind, walk-each, zeros, length-zeros, zeros-at, zeros-reading, zeros-necklace}
use Rattle.ring_home_laws.proofs.Home.{home-necklace, home-reading}
use Rattle.ring_total_laws.specs.{Turns.is_turn, OneRing.OneRingEach, OneRing.PeriodsAddUp}
use Rattle.ring_total_laws.proofs.{Totals.total-swap, Totals.readings-size, Turning.turns-count, Turning.necklace-turn}

-- a necklace of n sectors and k shades
abbrev pub Ring : ℕ → ℕ → List ℕ → Type 0
Ring n k v = Reading n k v × (necklace v ≡ true)

module _ (n k : ℕ) (z : 0 < n) (y : 0 < k) (rings : List (List ℕ)) (m : ℕ) (walk : FullWalk necklace k (zeros n) rings m) where
  -- ---- the rings of the walk are the necklaces

  -- what the walk comes to after the all-zero ring
  later : All (λ u. Reading n k u × (necklace u ≡ true) × (before (zeros n) u ≡ true)) rings
  later = subst (λ (x : ℕ). All (λ u. Reading x k u × (necklace u ≡ true) × (before (zeros n) u ≡ true)) rings) (length-zeros n) (walk-kind necklace k walk)

  -- the walk comes to necklaces of n and k only
  pub walk-rings : All (Ring n k) (zeros n ∷ rings)
  walk-rings = also (zeros-reading n k y, zeros-necklace n) (all-weaken (λ u h. (h.0, h.1)) later)

  -- and to each of them exactly once
  pub walk-all : (u : List ℕ) → Reading n k u → necklace u ≡ true → count (same u) (zeros n ∷ rings) ≡ 1
  unfolding total
  walk-all u r h =
      elim (lex (zeros n) u) [
        | ahead l ↦ rw (after-not-same u (zeros n) l) (omega (arith, walk-each necklace k walk u (subst (λ (x : ℕ). Reading x k u) (sym (length-zeros n)) r) h l))
        | equal e ↦ rw (← e, same_refl (zeros n)) (omega (arith, count-zero (same u) rings (λ x q. rw (← e) (before-not-same (zeros n) x q.2)) later))
        | behind l ↦ let d = before-less u (zeros n) (r.long ∙ sym (length-zeros n)) l in absurd (omega (arith, d.less, zeros-at n d.at))
      ]

  -- a reading that is no necklace is not among them
  pub walk_no : (u : List ℕ) → necklace u ≡ false → count (same u) (zeros n ∷ rings) ≡ 0
  walk_no u h = count-zero (same u) (zeros n ∷ rings) (λ v q. same_false u v (λ e. clash (necklace u) (rw e q.1) h)) walk-rings

  -- ---- the two sentences

  -- each reading is a turn of exactly one ring of the walk
  pub one-ring : OneRingEach n k (zeros n) rings
  one-ring w r =
      count-cong (λ v. is_turn v w) (same (home w)) (zeros n ∷ rings) (λ v q. necklace-turn v w (omega (arith, q.0.long)) (r.long ∙ sym q.0.long) q.1) walk-rings
      ∙ walk-all (home w) (home-reading w long n k r) (home-necklace w long)
    where
      long : 0 < length w
      long = omega (arith, r.long)

  -- the periods of the rings of the walk add up to k ^ n
  pub period-sum : PeriodsAddUp n k (zeros n) rings
  period-sum =
      total-cong period (λ v. count (is_turn v) (readings n k)) (zeros n ∷ rings) (λ v q. sym (turns-count v (omega (arith, q.0.long)) n k q.0)) walk-rings
      ∙ total-swap (λ v w. bit (is_turn v w)) (zeros n ∷ rings) (readings n k)
      ∙ total-cong (λ w. count (λ v. is_turn v w) (zeros n ∷ rings)) (λ w. 1) (readings n k) one-ring (readings-all n k)
      ∙ readings-size n k

-- there is such a walk for every n and k of at least 1, and both sentences hold of it
pub walk-one-ring : (n k : ℕ) → 0 < n → 0 < k →
    (rings : List (List ℕ)) × (m : ℕ) × FullWalk necklace k (zeros n) rings m × OneRingEach n k (zeros n) rings × PeriodsAddUp n k (zeros n) rings
walk-one-ring n k z y =
    let w = walk-exists necklace k (zeros n) in
    (w.0, w.1, w.2, one-ring n k z y w.0 w.1 w.2, period-sum n k z y w.0 w.1 w.2)
