-- How many prenecklaces, Lyndon words and necklaces there are (demand 3; 000, section 2).
--     snoc-one, prenecklaces-more     each prenecklace of n sectors has one extension that keeps its lyn, and its others are Lyndon words: P(n + 1) = P(n) + L(n + 1)
--     prenecklaces-lyndon             P(n) = L(1) + .. + L(n)
--     prenecklaces-necklaces          P(n) is at most the necklaces of lengths 1 to n together
use Rattle.words.proofs.Plain.{ℕ, zero, suc, ◌+◌, ◌-◌, ◌<◌, ◌≤◌, arith, ◌≡◌, refl, sym, ap, ◌∙◌, true, false, List, [], ◌∷◌, eqb, length, get_or}
use Rattle.words.proofs.Plain.{List·get_d-append, eq-eqb, ne_eqb}
use Rattle.words.specs.Readings.{Reading, readings, bit, count}
use Rattle.words.proofs.Split.{lt, eq, gt, tri, Test, passes, fails, test, refuted, clash}
use Rattle.words.proofs.{Readings.readings-all, Sequence.sec}
use Rattle.words.proofs.Count.{sum_below, sum-cong, sum-add, sum-zero, sum_one, total-cong, total-add, total-snoc, count-cong, count-le}
use Rattle.rings.specs.{Necklace.necklace, Necklace.lyndon, Prenecklace.prenecklace, Prenecklace.lyn}
use Rattle.rings.specs.Steps.{how_many, how_many_to}
use Rattle.ring_laws.proofs.{Run.pre-shorter, Run.pre-through, Lyndon.lyn-run, Lyndon.lyndon-one}
use Rattle.ring_laws.proofs.Words.{pre-of, of-pre, necklace-prenecklace}
use Rattle.ring_laws.proofs.Fundamental.{snoc, length-snoc, extend_same, extend-greater, extend-smaller}
use Rattle.ring_laws.proofs.Classes.{lyndon-necklace, lyndon-lyn}

pub lyndon-prenecklace : (w : List ℕ) → lyndon w ≡ true → prenecklace w ≡ true
lyndon-prenecklace w h = necklace-prenecklace w (lyndon-necklace w h)

-- a beginning of a prenecklace is one
pub snoc-begin : (w : List ℕ) (b : ℕ) → prenecklace (snoc w b) ≡ true → prenecklace w ≡ true
snoc-begin w b h =
    of-pre w (pre-through (sec (snoc w b)) (sec w) (length w) (λ m l. List·get_d-append w (b ∷ []) 0 m l)
    (pre-shorter (sec (snoc w b)) (length (snoc w b)) (length w) (omega (arith, length-snoc w b)) (pre-of (snoc w b) h)))

-- ---- the extensions of one word

module _ (n k : ℕ) (w : List ℕ) (reading : Reading n k w) (z : 0 < n) where
  pos : 0 < length w
  pos = omega (arith, reading.long)

  -- the sector that keeps lyn
  keeps : ℕ
  keeps = get_or w (length w - lyn w) 0

  -- what a sector does: nothing below `keeps`, the run goes on at it, a Lyndon word above it
  one-extension : prenecklace w ≡ true → (b : ℕ) → bit (prenecklace (snoc w b)) ≡ bit (eqb keeps b) + bit (lyndon (snoc w b))
  unfolding keeps
  one-extension h b =
      elim (tri b keeps) [
        | lt l ↦ let e = extend-smaller w pos h b l in
            rw (
              e,
              ne_eqb keeps b (λ q. omega arith),
              refuted (lyndon (snoc w b))
                  (λ y. clash (prenecklace (snoc w b)) (lyndon-prenecklace (snoc w b) y) e),
            ) (omega arith)
        | eq l ↦ let e = extend_same w pos h b l in rw (e.0, eq-eqb keeps b (sym l), no-lyndon e.0 e.1) (omega arith)
        | gt l ↦ let e = extend-greater w pos h b l in rw (e.1, e.0, ne_eqb keeps b (λ q. omega arith)) (omega arith)
      ]
    where
      no-lyndon : prenecklace (snoc w b) ≡ true → lyn (snoc w b) ≡ lyn w → lyndon (snoc w b) ≡ false
      no-lyndon p e =
          refuted (lyndon (snoc w b))
          (λ y. omega (arith, (lyndon-lyn (snoc w b) (omega (arith, length-snoc w b)) p).0 y, e, length-snoc w b, (lyn-run w pos h).fits))

  -- of all sectors one keeps lyn
  one-keeps : prenecklace w ≡ true → sum_below k (λ b. bit (eqb keeps b)) ≡ 1
  unfolding keeps
  one-keeps h =
      sum_one k (λ b. bit (eqb keeps b)) keeps (reading.shades (length w - lyn w)
      (omega (arith, reading.long, (lyn-run w pos h).pos, (lyn-run w pos h).fits))) (λ b l q. rw (ne_eqb keeps b q)) ∙ rw (eq-eqb keeps keeps refl)

  -- the prenecklaces that extend w: one where w is a prenecklace, and the Lyndon words that extend it
  pub snoc-one : sum_below k (λ b. bit (prenecklace (snoc w b))) ≡ bit (prenecklace w) + sum_below k (λ b. bit (lyndon (snoc w b)))
  snoc-one = go (test (prenecklace w))
    where
      go : Test (prenecklace w) → sum_below k (λ b. bit (prenecklace (snoc w b))) ≡ bit (prenecklace w) + sum_below k (λ b. bit (lyndon (snoc w b)))
      go (passes h) =
          rw h
          (sum-cong k (λ b. bit (prenecklace (snoc w b))) (λ b. bit (eqb keeps b) + bit (lyndon (snoc w b))) (λ b l. one-extension h b) ∙ sum-add k
          (λ b. bit (eqb keeps b)) (λ b. bit (lyndon (snoc w b))) ∙ ap (λ (x : ℕ). x + sum_below k (λ b. bit (lyndon (snoc w b)))) (one-keeps h))
      go (fails h) =
          omega (
            arith,
            sum-zero k (λ b. bit (prenecklace (snoc w b))) (λ b l. rw (refuted (prenecklace (snoc w b)) (λ p. clash (prenecklace w) (snoc-begin w b p) h))),
            sum-zero k (λ b. bit (lyndon (snoc w b))) (λ b l. rw (refuted (lyndon (snoc w b)) (λ y. clash (prenecklace w) (snoc-begin w b (lyndon-prenecklace (snoc w b) y)) h))),
            ap bit h,
          )

-- ---- all words

-- P(n + 1) = P(n) + L(n + 1), from one sector on
pub prenecklaces-more : (n k : ℕ) → 0 < n → how_many prenecklace (suc n) k ≡ how_many prenecklace n k + how_many lyndon (suc n) k
unfolding how_many
prenecklaces-more n k z =
    total-snoc n k (λ w. bit (prenecklace w)) ∙ total-cong (λ w. sum_below k (λ b. bit (prenecklace (snoc w b))))
    (λ w. bit (prenecklace w) + sum_below k (λ b. bit (lyndon (snoc w b)))) (readings n k) (λ w r. snoc-one n k w r z) (readings-all n k) ∙
    total-add (λ w. bit (prenecklace w)) (λ w. sum_below k (λ b. bit (lyndon (snoc w b)))) (readings n k) ∙ ap
    (λ (x : ℕ). count prenecklace (readings n k) + x) (sym (total-snoc n k (λ w. bit (lyndon w))))

-- each reading of one sector is a Lyndon word
one-sector : (k : ℕ) (w : List ℕ) → Reading 1 k w → lyndon w ≡ true
one-sector k [] r = absurd (omega (arith, r.long))
one-sector k (a ∷ []) r = lyndon-one a
one-sector k (a ∷ b ∷ w) r = absurd (omega (arith, r.long))

-- P(n) = L(1) + .. + L(n)
pub prenecklaces-lyndon : (n k : ℕ) → 0 < n → how_many prenecklace n k ≡ how_many_to lyndon n k
unfolding how_many_to how_many
prenecklaces-lyndon zero k z = absurd (omega arith)
prenecklaces-lyndon (suc zero) k z =
    omega (arith, count-cong prenecklace lyndon (readings 1 k) (λ w r. let y = one-sector k w r in lyndon-prenecklace w y ∙ sym y) (readings-all 1 k))
prenecklaces-lyndon (suc (suc n)) k z = omega (arith, prenecklaces-more (suc n) k (omega arith), prenecklaces-lyndon (suc n) k (omega arith))

-- L(1) + .. + L(n) is at most N(1) + .. + N(n)
lyndon-necklaces : (n k : ℕ) → how_many_to lyndon n k ≤ how_many_to necklace n k
unfolding how_many_to how_many
lyndon-necklaces zero k = omega arith
lyndon-necklaces (suc n) k =
    omega (arith, lyndon-necklaces n k, count-le lyndon necklace (readings (suc n) k) (λ w r h. lyndon-necklace w h) (readings-all (suc n) k))

-- P(n) is at most the number of necklaces of lengths 1 to n together
pub prenecklaces-necklaces : (n k : ℕ) → 0 < n → how_many prenecklace n k ≤ how_many_to necklace n k
prenecklaces-necklaces n k z = omega (arith, prenecklaces-lyndon n k z, lyndon-necklaces n k)
