-- What counts leave beside some sectors.
--     Leaving cs rem b    rem has the first b counts, and nothing of the others
--     leave-start, leave-more, leave-end    the loop over the counts
--     remains-more, remains-less    one sector more, and one less
--     exceeds-one                   a sector of which none is left
--     sum-le, remains-sum   what is left is no more than the counts
use Rattle.words.proofs.Plain.{ℕ, zero, suc, ◌+◌, ◌-◌, ◌<◌, ◌≤◌, add-one, arith, ◌≡◌, refl, sym, ap, ◌∙◌, List, [], ◌∷◌, ◌++◌, length, get_or, take, drop}
use Rattle.words.proofs.Plain.{set}
use Rattle.words.proofs.Plain.{replicate, length-set, length-replicate, get_or-set_same, get_or-set_other, take-suc, take-add}
use Rattle.words.proofs.Split.{lt, eq, gt, tri}
use Rattle.rings.specs.Counts.{occurs}
use Rattle.ring_laws.proofs.FullWalk.{zeros-at}
use Rattle.words.specs.Sum.{sum_of}
use Rattle.words.proofs.Sequence.{sec}
use Rattle.shades_laws.proofs.Copies.{occurs-append}
use Rattle.shades_tally_inner.proofs.Tallying.{occurs-none, occurs-here, occurs-other}
use Rattle.shades_tally_inner.specs.Remaining.{Remains, Exceeds}

-- rem has the first b counts, and nothing of the others
pub record Leaving (cs rem : List ℕ) (b : ℕ) : Type 0 where
  pub size : length rem ≡ 16
  pub within : b ≤ length cs
  pub left : (x : ℕ) → x < b → get_or rem x 0 ≡ get_or cs x 0
  pub past : (x : ℕ) → b ≤ x → get_or rem x 0 ≡ 0

-- no count is looked at yet
pub leave-start : (cs : List ℕ) → Leaving cs (replicate 16 0) 0
leave-start cs = record { size = length-replicate {A = ℕ} 16 0; within = omega arith; left = λ x h. absurd (omega arith); past = λ x h. zeros-at 16 x }

-- one count more
pub leave-more : (cs rem : List ℕ) (b : ℕ) → length cs ≤ 16 → Leaving cs rem b → b < length cs → Leaving cs (set rem b (get_or cs b 0)) (b + 1)
leave-more cs rem b few l h = record {
  size = length-set rem b a ∙ l.size;
  within = omega arith;
  left = λ x m. elim (tri x b) [
    | lt q ↦ get_or-set_other rem b x a 0 (λ z. omega arith) ∙ l.left x q
    | eq q ↦ rw q (get_or-set_same rem b a 0 (omega (arith, l.size)))
    | gt q ↦ absurd (omega arith)
  ];
  past = λ x m. get_or-set_other rem b x a 0 (λ z. omega arith) ∙ l.past x (omega arith);
}
  where
    a : ℕ
    a = get_or cs b 0

-- where every count is looked at, they are what is left where no sector is taken
pub leave-end : (cs rem : List ℕ) (b : ℕ) → Leaving cs rem b → length cs ≤ b → Remains cs [] rem
leave-end cs rem b l h =
    record { size = l.size; left = λ x m. omega (arith, l.left x (omega arith), occurs-none x); past = λ x m. l.past x (omega (arith, l.within)) }

-- counts that are nowhere greater have no greater sum
pub sum-le : (xs ys : List ℕ) → ((b : ℕ) → get_or xs b 0 ≤ get_or ys b 0) → sum_of xs ≤ sum_of ys
unfolding sum_of
sum-le [] ys h = omega arith
sum-le (x ∷ xs) [] h = omega (arith, h 0, sum-le xs [] (λ b. h (suc b)))
sum-le (x ∷ xs) (y ∷ ys) h = omega (arith, h 0, sum-le xs ys (λ b. h (suc b)))

-- what is left is no more than the counts
pub remains-sum : (cs u rem : List ℕ) → Remains cs u rem → sum_of rem ≤ sum_of cs
remains-sum cs u rem r =
    sum-le rem cs
    (λ b. elim (tri b (length cs)) [ lt h ↦ omega (arith, r.left b h) | eq h ↦ omega (arith, r.past b (omega arith)) | gt h ↦ omega (arith, r.past b (omega arith)) ])

-- ---- sector after sector

module _ (cs w rem : List ℕ) (i : ℕ) (inside : i < length w) (known : sec w i < length cs) (few : length cs ≤ 16) where
  abbrev x : ℕ
  x = sec w i

  -- a shade in one sector more
  one-here : occurs x (take (i + 1) w) ≡ suc (occurs x (take i w))
  one-here = rw (add-one i, take-suc w i 0 inside, occurs-append) (omega (arith, occurs-here x x [] refl, occurs-none x))

  one-other : (b : ℕ) → (b ≡ x → ⊥) → occurs b (take (i + 1) w) ≡ occurs b (take i w)
  one-other b h = rw (add-one i, take-suc w i 0 inside, occurs-append) (omega (arith, occurs-other x b [] (λ e. h (sym e)), occurs-none b))

  -- one sector more
  pub remains-more : Remains cs (take i w) rem → (get_or rem x 0 ≡ 0 → ⊥) → Remains cs (take (i + 1) w) (set rem x (get_or rem x 0 - 1))
  remains-more r z = record {
    size = length-set rem x (get_or rem x 0 - 1) ∙ r.size;
    left = λ b h. elim (tri b x) [
      | lt e ↦ other b h (λ q. omega arith)
      | eq e ↦ rw (e, get_or-set_same rem x (get_or rem x 0 - 1) 0 (omega (arith, r.size))) (omega (arith, one-here, r.left x known))
      | gt e ↦ other b h (λ q. omega arith)
    ];
    past = λ b h. get_or-set_other rem x b (get_or rem x 0 - 1) 0 (λ q. omega arith) ∙ r.past b h;
  }
    where
      other : (b : ℕ) → b < length cs → (b ≡ x → ⊥) → get_or (set rem x (get_or rem x 0 - 1)) b 0 + occurs b (take (i + 1) w) ≡ get_or cs b 0
      other b h q = omega (arith, get_or-set_other rem x b (get_or rem x 0 - 1) 0 q, one-other b q, r.left b h)

  -- one sector less
  pub remains-less : Remains cs (take (i + 1) w) rem → Remains cs (take i w) (set rem x (get_or rem x 0 + 1))
  remains-less r = record {
    size = length-set rem x (get_or rem x 0 + 1) ∙ r.size;
    left = λ b h. elim (tri b x) [
      | lt e ↦ other b h (λ q. omega arith)
      | eq e ↦ rw (e, get_or-set_same rem x (get_or rem x 0 + 1) 0 (omega (arith, r.size))) (omega (arith, one-here, r.left x known))
      | gt e ↦ other b h (λ q. omega arith)
    ];
    past = λ b h. get_or-set_other rem x b (get_or rem x 0 + 1) 0 (λ q. omega arith) ∙ r.past b h;
  }
    where
      other : (b : ℕ) → b < length cs → (b ≡ x → ⊥) → get_or (set rem x (get_or rem x 0 + 1)) b 0 + occurs b (take i w) ≡ get_or cs b 0
      other b h q = omega (arith, get_or-set_other rem x b (get_or rem x 0 + 1) 0 q, one-other b q, r.left b h)

  -- a sector of which none is left
  pub exceeds-one : Remains cs (take i w) rem → get_or rem x 0 ≡ 0 → Exceeds cs (take (suc i) w)
  exceeds-one r z = record { shade = x; known = known; often = rw (← add-one i) (omega (arith, one-here, r.left x known)) }

-- what is more than the counts allow is so with more sectors
pub exceeds-longer : (cs w : List ℕ) (i j : ℕ) → i ≤ j → Exceeds cs (take i w) → Exceeds cs (take j w)
exceeds-longer cs w i j h x =
    record {
      shade = x.shade;
      known = x.known;
      often = omega (arith, x.often, ap (occurs x.shade) whole, occurs-append x.shade (take i w) (take (j - i) (drop i w)));
    }
  where
    whole : take j w ≡ take i w ++ take (j - i) (drop i w)
    whole = ap (λ n. take n w) (let e : j ≡ i + (j - i) = omega arith in e) ∙ take-add i (j - i) w

-- a count that is left is no more than all counts together
pub remains-le : (cs u rem : List ℕ) (b : ℕ) → Remains cs u rem → get_or rem b 0 ≤ sum_of cs
unfolding sum_of
remains-le cs u rem b r = elim (tri b (length cs)) [ lt h ↦ omega (arith, r.left b h, count-le cs b) | eq h ↦ omega (arith, r.past b (omega arith)) | gt h ↦ omega (arith, r.past b (omega arith)) ]
  where
    count-le : (cs : List ℕ) (b : ℕ) → get_or cs b 0 ≤ sum_of cs
    count-le [] b = omega arith
    count-le (c ∷ cs) zero = omega arith
    count-le (c ∷ cs) (suc b) = omega (arith, count-le cs b)
