-- Totals over the full walk by necklaces from the all-zero ring, that ring included (the walk itself: `ring_total_laws`, proofs/OneRing).
--     walk-total    a total over the walk is a total over the necklaces among all readings
--     walk-count    the walk comes to as many rings as there are necklaces
use Rattle.words.proofs.Plain.{ℕ, ◌*◌, ◌<◌, ◌≡◌, refl, sym, ◌∙◌, Bool, true, false, List, ◌∷◌}
use native.Mathlib.Nat.{mul-one, mul-zero}
use Rattle.words.specs.Order.{same}
use Rattle.words.specs.Readings.{Reading, readings, bit, total, count}
use Rattle.words.proofs.Split.{passes, fails, test, clash}
use Rattle.words.proofs.Lex.{same_true, same_refl, same_false}
use Rattle.words.proofs.{Readings.readings-all, Count.total-cong}
use Rattle.rings.specs.{Necklace.necklace, Steps.FullWalk, Steps.how_many}
use Rattle.ring_laws.proofs.FullWalk.{zeros}
use Rattle.ring_total_laws.proofs.Totals.{total-swap}
use Rattle.ring_total_laws.proofs.OneRing.{walk-rings, walk-all, walk_no}
use Rattle.how_many_number_spec.specs.Divisors.{when}
use Rattle.how_many_period_laws.proofs.Totals.{total-scale, total-one}

module _ (n k : ℕ) (z : 0 < n) (y : 0 < k) (rings : List (List ℕ)) (m : ℕ) (walk : FullWalk necklace k (zeros n) rings m) where
  -- a total over the walk is a total over the necklaces among all readings
  pub walk-total : (g : List ℕ → ℕ) → total g (zeros n ∷ rings) ≡ total (λ u. when (necklace u) (g u)) (readings n k)
  walk-total g =
      total-cong g (λ v. total (λ u. when (same v u) (g v)) (readings n k)) (zeros n ∷ rings) (λ v q. sym (total-one n k (g v) v q.0)) (walk-rings n k z y rings m walk)
      ∙ total-swap (λ v u. when (same v u) (g v)) (zeros n ∷ rings) (readings n k)
      ∙ total-cong (λ u. total (λ v. when (same v u) (g v)) (zeros n ∷ rings)) (λ u. when (necklace u) (g u)) (readings n k) (λ u r. at u r) (readings-all n k)
    where
      turned : (u v : List ℕ) → when (same v u) (g v) ≡ g u * bit (same u v)
      turned u v =
          elim (test (same v u)) [
            | passes e ↦ let q = same_true v u e in rw (q, same_refl u) (sym (mul-one (g u)))
            | fails e ↦ rw (e, same_false u v (λ q. clash (same v u) (rw q (same_refl v)) e)) (sym (mul-zero (g u)))
          ]

      at : (u : List ℕ) → Reading n k u → total (λ v. when (same v u) (g v)) (zeros n ∷ rings) ≡ when (necklace u) (g u)
      at u r =
          total-cong (λ v. when (same v u) (g v)) (λ v. g u * bit (same u v)) (zeros n ∷ rings) (λ v q. turned u v) (walk-rings n k z y rings m walk)
          ∙ total-scale (g u) (λ v. bit (same u v)) (zeros n ∷ rings)
          ∙ (elim (test (necklace u)) [ passes e ↦ rw (e, walk-all n k z y rings m walk u r e) (mul-one (g u)) | fails e ↦ rw (e, walk_no n k z y rings m walk u e) (mul-zero (g u)) ])

  -- the walk comes to as many rings as there are necklaces
  pub walk-count : count (λ v. true) (zeros n ∷ rings) ≡ how_many necklace n k
  unfolding how_many
  walk-count =
      walk-total (λ v. 1)
      ∙ total-cong (λ u. when (necklace u) 1) (λ u. bit (necklace u)) (readings n k) (λ u r. at (necklace u)) (readings-all n k)
    where
      at : (b : Bool) → when b 1 ≡ bit b
      at true = refl
      at false = refl
