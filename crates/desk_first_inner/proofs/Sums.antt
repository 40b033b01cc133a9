-- The sum of counts, up to 64, and what is printed where it is above.
--     Summed cs s i                   the first i counts are s together
--     summed-none, summed-more, summed-over, summed-all    the loop
--     given-long, first-long          an output of more than 64 places is refused alike, whatever its length
--     first-within                    what an output of SumWithin places prints
use Rattle.words.proofs.Plain.{ℕ, ◌+◌, ◌-◌, ◌<◌, ◌≤◌, arith, dec_lt, ◌≡◌, refl, ap, ◌∙◌, inl, List, length, get_or, take, drop, length-replicate}
use Rattle.words.proofs.Plain.{drop_of_length-le}
use Rattle.words.specs.Sum.{sum_of}
use Rattle.refusal.specs.{declared.Refusal.Refusal, declared.Refusal.TheVariants.Length, Order.Given, Calls.counted_first}
use Rattle.refusal.proofs.Unique.{one-refusal}
use Rattle.check_counts_inner.proofs.Sum.{sum-at}
use Rattle.std.specs.Prelude.{Result, Ok, Err}
use Rattle.shades_spec.specs.Answers.{FirstSays}
use Rattle.desk_spec.specs.{Texts.first_ring_text, Answers.FirstPrints, Answers.blank}
use Rattle.desk_words_inner.proofs.Shapes.{take-blank}
use Rattle.desk_first_inner.specs.Says.{SumWithin, FirstIn}

-- ---- the sum

pub record Summed (cs : List ℕ) (s i : ℕ) : Type 0 where
  pub within : i ≤ length cs
  pub small : s ≤ 64
  pub sums : s + sum_of (drop i cs) ≡ sum_of cs

module _ (cs : List ℕ) where
  pub summed-none : Summed cs 0 0
  summed-none = record { within = omega arith; small = omega arith; sums = omega arith }

  module _ (s i : ℕ) (u : Summed cs s i) where
    pub summed-more : i < length cs → get_or cs i 0 ≤ 64 - s → Summed cs (s + get_or cs i 0) (i + 1)
    summed-more h l = record { within = omega arith; small = omega (arith, u.small); sums = omega (arith, sum-at cs i h, u.sums) }

    pub summed-over : i < length cs → 64 - s < get_or cs i 0 → SumWithin cs 65
    summed-over h l =
        record { small = λ g. absurd (omega (arith, g, sum-at cs i h, u.sums, u.small)); great = λ g. refl; most = omega arith }

    pub summed-all : length cs ≤ i → SumWithin cs s
    unfolding sum_of
    summed-all h =
        let e : sum_of (drop i cs) ≡ 0 = ap (λ (x : List ℕ). sum_of x) (drop_of_length-le cs h) in
        record { small = λ g. omega (arith, e, u.sums); great = λ g. absurd (omega (arith, g, e, u.sums, u.small)); most = omega (arith, u.small) }

-- ---- more than 64 sectors

pub given-long : (n k : ℕ) (cs : List ℕ) → 64 < n → Given (counted_first n k cs) (Length 0)
given-long n k cs h = inl (inl (inl (inl (inl (inl (refl, λ s. omega (arith, h, s.1)))))))

-- by the answer in an output of one such length, the answer in one of another
module _ (k : ℕ) (cs o p : List ℕ) (h : 64 < length o) (g : 64 < length p) where
  long-says : (a : Result Unit Refusal) (c : List ℕ) → FirstSays k cs o a c → FirstSays k cs p a p
  long-says (Ok _) c s = absurd (omega (arith, h, s.0.0.0.0.0.0.0.1))
  long-says (Err r) c s =
      let e = one-refusal (counted_first (length o) k cs) r (Length 0) s.0 (given-long (length o) k cs h) in
      (rw e (given-long (length p) k cs g), refl)

  no-ring : (a : Result Unit Refusal) (c : List ℕ) → FirstSays k cs o a c → first_ring_text a c ≡ first_ring_text a p
  no-ring (Ok _) c s = absurd (omega (arith, h, s.0.0.0.0.0.0.0.1))
  no-ring (Err r) c s = refl

  pub first-long : (t : List ℕ) → FirstIn k cs o t → FirstIn k cs p t
  first-long t x =
      record {
        answer = (x.answer.0, p);
        says = long-says x.answer.0 x.answer.1 x.says;
        is = x.is ∙ no-ring x.answer.0 x.answer.1 x.says;
      }

-- ---- what is printed

pub first-within : (k : ℕ) (cs : List ℕ) (n : ℕ) → SumWithin cs n → (t : List ℕ) → FirstIn k cs (take n (blank 65)) t → FirstPrints k cs t
first-within k cs n s t x =
    elim (dec_lt 64 (sum_of cs)) [
      | yes h ↦
          let e = take-blank n 65 s.most ∙ ap blank (s.great h) in
          first-long k cs (blank 65) (blank (sum_of cs)) (omega arith) (rw (length-replicate {A = ℕ} (sum_of cs) 0) h) t (rw e at x)
      | no h ↦ rw (take-blank n 65 s.most ∙ ap blank (s.small (omega arith))) at x
    ]
