-- Every reading has one ring (02, request n), and the sums of demand 3, of what `walk::start` and `walk::next_necklace` hand out one after another until Done
-- (specs/HandedOut).
--     steps-one-ring         each reading is a turn of exactly one ring handed out
--     steps-period-sum       the periods of the rings handed out add up to k to the power n
--     handed-out-sum         the moves that the steps report add up to one less than the prenecklaces of n and k
--     handed-out-bound       and to at most one less than the necklaces of lengths 1 to n together
--     handed_out             for every n and k of the page there is what these sentences speak of
use Rattle.std.specs.Prelude.{Ok}
use Rattle.words.proofs.Plain.{ℕ, arith, refl, sym, subst, List}
use Rattle.words.specs.Readings.{Sized, Shaded}
use Rattle.rings.specs.{Necklace.necklace, Steps.FullWalk}
use Rattle.ring_laws.proofs.Words.{necklace-prenecklace}
use Rattle.ring_laws.proofs.FullWalk.{zeros, length-zeros, zeros-reading, zeros-prenecklace, walk-sum, walk-sum-bound}
use Rattle.ring_total_laws.specs.OneRing.{OneRingEach, PeriodsAddUp}
use Rattle.ring_total_laws.proofs.OneRing.{one-ring, period-sum}
use Rattle.walk_spec.specs.{Record.walk_of, Says.StartSays}
use Rattle.walk_laws.proofs.Started.{start-zeros, long, many, start-walk, steps-end}
use Rattle.walk_laws.specs.HandedOut.{HandedOut, OneRingHandedOut, PeriodsHandedOut, MovesHandedOut, MovesWithin}

-- ---- the sentences

module _ (n k : ℕ) (out : HandedOut n k) where
  -- the steps are the full walk from the all-zero ring
  walked : FullWalk necklace k (zeros n) out.rings out.sum
  walked = start-walk n k out.first out.started necklace out.steps

  -- each reading of n and k is a turn of exactly one ring handed out
  pub steps-one-ring : OneRingHandedOut n k out
  steps-one-ring = subst (λ (u : List ℕ). OneRingEach n k u out.rings) (sym (start-zeros n k out.first out.started))
      (one-ring n k (long n k out.first out.started) (many n k out.first out.started) out.rings out.sum walked)

  -- the periods of the rings handed out add up to k to the power n
  pub steps-period-sum : PeriodsHandedOut n k out
  steps-period-sum = subst (λ (u : List ℕ). PeriodsAddUp n k u out.rings) (sym (start-zeros n k out.first out.started))
      (period-sum n k (long n k out.first out.started) (many n k out.first out.started) out.rings out.sum walked)

  -- the moves add up to one less than the prenecklaces of n and k
  pub handed-out-sum : MovesHandedOut n k out
  handed-out-sum = walk-sum necklace n k (many n k out.first out.started) out.rings out.sum walked

  -- and to at most one less than the necklaces of lengths 1 to n together
  pub handed-out-bound : MovesWithin n k out
  handed-out-bound = walk-sum-bound necklace n k (long n k out.first out.started) (many n k out.first out.started) out.rings out.sum walked

-- ---- there is such a start, and such steps

-- for every n and k of the page a start from the all-zero ring is not refused, and the steps from it come to Done
pub handed_out : (n k : ℕ) → Sized n → Shaded k → HandedOut n k
handed_out n k sized shaded =
    let s = steps-end necklace necklace-prenecklace (zeros n) k (walk_of k (zeros n)) started in
    record { first = walk_of k (zeros n); started = started; rings = s.0; sum = s.1; steps = s.2 }
  where
    started : StartSays (zeros n) k (walk_of k (zeros n)) (Ok tt)
    started =
        let r = zeros-reading n k (omega arith) in
        let l = length-zeros n in
        ((((((((omega arith, omega arith), tt), shaded), λ i b. r.shades i (omega arith)), tt), tt), zeros-prenecklace n), refl)
