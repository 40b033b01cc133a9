-- A reading looked for among rings that stand in words of their own.
--     one-sighted      the question has one answer
--     length-alike     how many sectors rings of n sectors have, end to end
--     rings-joined     where each ring has n sectors, the rings that are looked at end to end are the words: none is cut elsewhere
use Rattle.words.proofs.Plain.{ℕ, zero, suc, ◌+◌, ◌*◌, ◌/◌, ◌<◌, arith, ◌≡◌, sym, ap, ◌∙◌, List, [], ◌∷◌, length, get_or, length-append}
use Rattle.words.proofs.Plain.{take_at, drop-append-add, ext_get_or}
use native.Mathlib.Nat.{mul-suc, mul-zero, mul-div_cancel_left}
use Rattle.refusal.proofs.Unique.{one-refusal}
use Rattle.strip_spec.specs.Strip.{joined}
use Rattle.sight_spec.specs.{declared.Sighting.Sighting, Rings.ring_at, Rings.rings_in}
use Rattle.sight_spec.proofs.{Rings.length-first, Rings.first-at, Unique.one-sight}
use Rattle.std.specs.Prelude.{Result, Err}
use Rattle.refusal.specs.declared.Refusal.{Refusal}
use Rattle.desk_spec.specs.Sights.{AsLong, lengths_order, SightedSays, alike, unlike}

-- the question has one answer
pub one-sighted : (ts : List (List ℕ)) (r : List ℕ) (k e : ℕ) (a b : Result Sighting Refusal) → SightedSays ts r k e a → SightedSays ts r k e b → a ≡ b
one-sighted ts r k e a b (alike l x) (alike m y) = one-sight (joined ts) r k e a b x y
one-sighted ts r k e a b (alike l x) (unlike m q g d) = absurd (m l)
one-sighted ts r k e a b (unlike l p f c) (alike m y) = absurd (l m)
one-sighted ts r k e a b (unlike l p f c) (unlike m q g d) = c ∙ ap Err (one-refusal (lengths_order r ts) p q f g) ∙ sym d

-- ---- end to end

module _ (n : ℕ) where
  pub length-alike : (ts : List (List ℕ)) → AsLong n ts → length (joined ts) ≡ n * length ts
  unfolding joined
  length-alike [] p = sym (mul-zero n)
  length-alike (t ∷ ts) p = length-append t (joined ts) ∙ omega (arith, p 0 (omega arith), length-alike ts (λ j h. p (suc j) (omega arith)), mul-suc n (length ts))

  -- the ring number j is the word number j
  ring-joined : (ts : List (List ℕ)) → AsLong n ts → (j : ℕ) → j < length ts → ring_at n (joined ts) j ≡ get_or ts j []
  unfolding joined
  ring-joined [] p j h = absurd (omega arith)
  ring-joined (t ∷ ts) p zero h = rw (mul-zero n) (take_at t (joined ts) n (p 0 h))
  ring-joined (t ∷ ts) p (suc j) h =
      let e : n * suc j ≡ length t + n * j = omega (arith, mul-suc n j, p 0 (omega arith)) in
      rw (e, drop-append-add t (joined ts) (n * j)) (ring-joined ts (λ i g. p (suc i) (omega arith)) j (omega arith))

  pub rings-joined : (ts : List (List ℕ)) → 0 < n → AsLong n ts → rings_in n (joined ts) ≡ ts
  rings-joined ts z p =
      let m : length (joined ts) / n ≡ length ts = ap (λ (x : ℕ). x / n) (length-alike ts p) ∙ mul-div_cancel_left (length ts) z in
      let l = length-first n (joined ts) (length (joined ts) / n) ∙ m in
      ext_get_or [] (rings_in n (joined ts)) ts l (λ j h. first-at n (joined ts) (length (joined ts) / n) j (omega (arith, l, m)) ∙ ring-joined ts p j (omega (arith, l)))
