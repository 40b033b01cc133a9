-- What is left of the Lyndon words as a walk goes on.
--     kept-all, kept-each, kept-increasing    proofs/Kept of `word_list_spec`, passed on
--     rest k u                      the Lyndon words of u's length above u
--     rest-step, rest_end           a step to the next Lyndon word takes the first of them; where there is none, nothing is left
--     lyndons-one, lyndons-more     the Lyndon words from the all-zero ring on, which is one of them only where n is 1
use Rattle.words.proofs.Plain.{ℕ, ◌+◌, ◌<◌, ◌≤◌, arith, ◌≡◌, refl, sym, ap, ◌∙◌, true, false, ◌&&◌, none, some, List, [], ◌∷◌, length}
use Rattle.words.specs.{Order.before, Order.up_to, Readings.Reading, Readings.readings}
use Rattle.words.proofs.Split.{Test, passes, fails, test, refuted}
use Rattle.words.proofs.Lex.{Lex, ahead, equal, behind, lex, before-irrefl, before-trans, before-less, before-up_to, up_to-refl}
use Rattle.words.proofs.Readings.{all-weaken, readings-all, readings-increasing, first-none, first-is}
use Rattle.rings.specs.{Necklace.lyndon, Steps.above_of, Steps.next_of}
use Rattle.ring_laws.proofs.Lyndon.{of-lyndon, lyndon-one}
use Rattle.ring_laws.proofs.FullWalk.{next-facts, zeros, length-zeros, zeros-at, zeros-reading}
use Rattle.word_list_spec.specs.Passing.{kept}
pub use Rattle.word_list_spec.proofs.Kept.{kept-all, kept-each, kept-increasing}
use Rattle.word_list_spec.proofs.Kept.{kept-cong, kept-none, kept-first}
use Rattle.set_spec.specs.Greedy.{lyndons}

-- the Lyndon words above u
unfoldable pub rest : ℕ → List ℕ → List (List ℕ)
rest k u = kept (above_of lyndon u) (readings (length u) k)

-- ---- a step

pub rest-step : (k : ℕ) (u v : List ℕ) → next_of lyndon k u ≡ some v → rest k u ≡ v ∷ rest k v
unfolding rest next_of above_of
rest-step k u v e =
    let f = next-facts lyndon k u v e in
    rw f.0.long (kept-first (above_of lyndon u) (readings (length u) k) v (readings-increasing (length u) k) e
    ∙ ap (λ (x : List (List ℕ)). v ∷ x) (kept-cong (λ w. before v w && above_of lyndon u w) (above_of lyndon v) (readings (length u) k)
    (all-weaken (λ w r. on w f.1 (test (before v w))) (readings-all (length u) k))))
  where
    on : (w : List ℕ) → before u v ≡ true → Test (before v w) → (before v w && (before u w && lyndon w)) ≡ (before v w && lyndon w)
    on w g (passes q) = rw (q, before-trans u v w g q) refl
    on w g (fails q) = rw q refl

pub rest_end : (k : ℕ) (u : List ℕ) → next_of lyndon k u ≡ none → rest k u ≡ []
unfolding rest next_of
rest_end k u e = kept-none (above_of lyndon u) (readings (length u) k) (first-none (above_of lyndon u) (readings (length u) k) e)

-- ---- the start

-- no reading is below the all-zero ring
none_below : (n k : ℕ) (w : List ℕ) → Reading n k w → before w (zeros n) ≡ true → ⊥
none_below n k w r h =
    let l = before-less w (zeros n) (r.long ∙ sym (length-zeros n)) h in omega (arith, l.less, zeros-at n l.at)

-- the all-zero ring of two sectors or more is no Lyndon word
pub zeros-not : (n : ℕ) → 2 ≤ n → lyndon (zeros n) ≡ false
zeros-not n h =
    refuted (lyndon (zeros n))
    (λ t. let l = of-lyndon (zeros n) (omega (arith, length-zeros n)) t 1 (omega arith) (omega (arith, length-zeros n)) in omega (arith, l.less, zeros-at n l.at, zeros-at n (1 + l.at)))

pub lyndons-more : (n k : ℕ) → 2 ≤ n → lyndons n k ≡ rest k (zeros n)
unfolding lyndons rest above_of
lyndons-more n k h =
    rw (length-zeros n) (kept-cong lyndon (above_of lyndon (zeros n)) (readings n k) (all-weaken (λ w r. on w r (lex (zeros n) w)) (readings-all n k)))
  where
    on : (w : List ℕ) → Reading n k w → Lex (zeros n) w → lyndon w ≡ (before (zeros n) w && lyndon w)
    on w r (ahead l) = rw l refl
    on w r (equal q) = rw (← q, before-irrefl (zeros n)) (zeros-not n h)
    on w r (behind l) = absurd (none_below n k w r l)

pub lyndons-one : (k : ℕ) → 0 < k → lyndons 1 k ≡ zeros 1 ∷ rest k (zeros 1)
unfolding lyndons rest above_of
lyndons-one k z =
    kept-first lyndon (readings 1 k) (zeros 1) (readings-increasing 1 k)
    (first-is 1 k lyndon (zeros 1) (zeros-reading 1 k z) one (λ u r h. low u r (lex (zeros 1) u)))
  where
    one : lyndon (zeros 1) ≡ true
    one = lyndon-one 0

    low : (u : List ℕ) → Reading 1 k u → Lex (zeros 1) u → up_to (zeros 1) u ≡ true
    low u r (ahead l) = before-up_to (zeros 1) u l
    low u r (equal q) = rw (← q) (up_to-refl (zeros 1))
    low u r (behind l) = absurd (none_below 1 k u r l)
