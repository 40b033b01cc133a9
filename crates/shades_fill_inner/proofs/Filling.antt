-- Writing the letters of given counts, in increasing order, into an array.
--     Filling w₀ cs w l b     the letters of the first b counts are written; they are l
use Rattle.words.proofs.Plain.{ℕ, suc, ◌+◌, ◌-◌, ◌<◌, ◌≤◌, add-one, arith, ◌≡◌, refl, sym, ap, ◌∙◌, List, ◌++◌, length, get_or}
use Rattle.words.proofs.Plain.{take, replicate, take_all}
use Rattle.shades_laws.proofs.Sums.{sum-take-suc, sum-take-le}
use Rattle.words.specs.Sum.{sum_of}
use Rattle.shades_laws.proofs.Letters.{letters, letters-suc, letters_from}

-- the letters of the first b counts are written; they are l
pub record Filling (w₀ cs w : List ℕ) (l b : ℕ) : Type 0 where
  pub long : length w ≡ length w₀
  pub within : b ≤ length cs
  pub many : l ≡ sum_of (take b cs)
  pub done : take l w ≡ letters (take b cs)

-- none is written yet
pub fill_start : (w cs : List ℕ) → Filling w cs w 0 0
unfolding sum_of letters_from
fill_start w cs = record { long = refl; within = omega arith; many = refl; done = refl }

module _ (w₀ cs w : List ℕ) (l b : ℕ) (p : Filling w₀ cs w l b) (h : b < length cs) where
  -- the letters of one count more
  one-count : l + get_or cs b 0 ≡ sum_of (take (suc b) cs)
  one-count = omega (arith, p.many, sum-take-suc cs b h)

  -- there is room for them
  pub fill-room : sum_of cs ≤ length w₀ → l + get_or cs b 0 ≤ length w
  fill-room r = omega (arith, one-count, sum-take-le cs (suc b) (length cs) (omega arith), ap sum_of (take_all (length cs) cs (omega arith)), p.long)

  -- they are written
  pub fill_more : (v : List ℕ) → length v ≡ length w → take (l + get_or cs b 0) v ≡ take l w ++ replicate (l + get_or cs b 0 - l) b → Filling w₀ cs v (l + get_or cs b 0) (b + 1)
  fill_more v e q = rw (add-one b) (record {
    long = e ∙ p.long;
    within = omega arith;
    many = one-count;
    done =
        q
        ∙ ap (λ u. u ++ replicate (l + get_or cs b 0 - l) b) p.done
        ∙ ap (λ m. letters (take b cs) ++ replicate m b) (let z : l + get_or cs b 0 - l ≡ get_or cs b 0 = omega arith in z)
        ∙ sym (letters-suc 0 b b cs (omega arith) h);
  })

-- all are written
pub fill_end : (w₀ cs w : List ℕ) (l b : ℕ) → Filling w₀ cs w l b → length cs ≤ b → (l ≡ sum_of cs) × (take l w ≡ letters cs)
fill_end w₀ cs w l b p h = let e = take_all b cs h in (p.many ∙ ap sum_of e, p.done ∙ ap letters e)
