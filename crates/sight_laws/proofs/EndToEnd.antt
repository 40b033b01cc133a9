-- Rings of n sectors laid end to end, which are cut into the same rings again.
--     length-laid, laid-at    how many sectors they are, and where the ring number j lies
--     laid-below                each sector is one of a ring
--     rings-laid                cut into rings they are the rings
--     laid-passed               a reading of as many sectors and they pass the checks
use Rattle.words.proofs.Plain.{ℕ, zero, suc, ◌+◌, ◌-◌, ◌*◌, ◌/◌, ◌%◌, ◌<◌, arith, ◌≡◌, ap, ◌∙◌, List, [], ◌∷◌, ◌++◌, length, get_or, length-append}
use Rattle.words.proofs.Plain.{List·get_d-append, ext_get_or, take_at, drop-append-add, get_or-append-add}
use native.Mathlib.Nat.{mul-suc, mul-div_right, mul-mod_right}
use Rattle.words.specs.Readings.{Sized, Shaded, Reading}
use Rattle.words.proofs.Split.{lt, eq, gt, tri}
use Rattle.refusal.specs.Order.{Passed}
use Rattle.guard_laws.proofs.Sides.{Long}
use Rattle.set_layout_spec.specs.Layout.{end_to_end}
use Rattle.sight_spec.specs.Rings.{ring_at, rings_in, sight_order}
use Rattle.sight_spec.proofs.Rings.{length-first, first-at}

-- all but the first are as long
rest-long : (n : ℕ) (t : List ℕ) (ts : List (List ℕ)) → Long n (t ∷ ts) → Long n ts
rest-long n t ts long j h = long (suc j) (omega arith)

pub length-laid : (n : ℕ) (ts : List (List ℕ)) → Long n ts → length (end_to_end ts) ≡ n * length ts
unfolding end_to_end
length-laid n [] long = omega arith
length-laid n (t ∷ ts) long =
    let more : n * length (t ∷ ts) ≡ n * length ts + n = mul-suc n (length ts) in
    omega (arith, length-append t (end_to_end ts), length-laid n ts (rest-long n t ts long), long 0 (omega arith))

pub laid-at : (n : ℕ) (ts : List (List ℕ)) → Long n ts → (j : ℕ) → j < length ts → ring_at n (end_to_end ts) j ≡ get_or ts j []
unfolding end_to_end
laid-at n [] long j h = absurd (omega arith)
laid-at n (t ∷ ts) long zero h = let e : n * 0 ≡ 0 = omega arith in rw e (take_at t (end_to_end ts) n (long 0 (omega arith)))
laid-at n (t ∷ ts) long (suc j) h =
    let e : n * suc j ≡ length t + n * j = omega (arith, mul-suc n j, long 0 (omega arith)) in
    rw (e, drop-append-add t (end_to_end ts) (n * j)) (laid-at n ts (rest-long n t ts long) j (omega arith))

-- each sector is one of a ring
pub laid-below : (k : ℕ) (ts : List (List ℕ)) → ((j : ℕ) → j < length ts → (i : ℕ) → i < length (get_or ts j []) → get_or (get_or ts j []) i 0 < k) →
    (i : ℕ) → i < length (end_to_end ts) → get_or (end_to_end ts) i 0 < k
unfolding end_to_end
laid-below k [] b i h = absurd (omega arith)
laid-below k (t ∷ ts) b i h =
    elim (tri i (length t)) [
      | lt l ↦ rw (List·get_d-append t (end_to_end ts) 0 i l) (b 0 (omega arith) i l)
      | eq l ↦ past (laid-below k ts (λ j m. b (suc j) (omega arith))) (i - length t) (omega arith)
      | gt l ↦ past (laid-below k ts (λ j m. b (suc j) (omega arith))) (i - length t) (omega arith)
    ]
  where
    past : ((y : ℕ) → y < length (end_to_end ts) → get_or (end_to_end ts) y 0 < k) → (y : ℕ) → i ≡ length t + y → get_or (t ++ end_to_end ts) i 0 < k
    past f y e = rw (e, get_or-append-add t (end_to_end ts) y 0) (f y (omega (arith, length-append t (end_to_end ts))))

module _ (n : ℕ) (ts : List (List ℕ)) (z : 0 < n) (long : Long n ts) where
  how-many : length (end_to_end ts) / n ≡ length ts
  how-many = ap (λ (x : ℕ). x / n) (length-laid n ts long) ∙ mul-div_right (length ts) z

  -- cut into rings they are the rings
  pub rings-laid : rings_in n (end_to_end ts) ≡ ts
  rings-laid =
      let m = length-first n (end_to_end ts) (length (end_to_end ts) / n) in
      ext_get_or [] (rings_in n (end_to_end ts)) ts (m ∙ how-many) (λ j h. let l : j < length (end_to_end ts) / n = omega (arith, m) in
      first-at n (end_to_end ts) (length (end_to_end ts) / n) j l ∙ laid-at n ts long j (omega (arith, how-many)))

  -- a reading of as many sectors and they pass the checks
  pub laid-passed : (k : ℕ) (r : List ℕ) → Sized n → Shaded k → Reading n k r → ((j : ℕ) → j < length ts → Reading n k (get_or ts j [])) → Passed (sight_order r (end_to_end ts) k)
  laid-passed k r s h d each = (((rw d.long s, paired), h), below)
    where
      paired : length (end_to_end ts) % length r ≡ 0
      paired = rw (d.long, length-laid n ts long) (mul-mod_right n (length ts))

      rings-below : (i : ℕ) → i < length (end_to_end ts) → get_or (end_to_end ts) i 0 < k
      rings-below = laid-below k ts (λ j l i m. (each j l).shades i (omega (arith, (each j l).long)))

      past : (y i : ℕ) → i ≡ length r + y → i < length (r ++ end_to_end ts) → get_or (r ++ end_to_end ts) i 0 < k
      past y i e l = rw (e, get_or-append-add r (end_to_end ts) y 0) (rings-below y (omega (arith, length-append r (end_to_end ts))))

      below : (i : ℕ) → i < length (r ++ end_to_end ts) → get_or (r ++ end_to_end ts) i 0 < k
      below i l =
          elim (tri i (length r)) [
            | lt m ↦ rw (List·get_d-append r (end_to_end ts) 0 i m) (d.shades i (omega (arith, d.long)))
            | eq m ↦ past (i - length r) i (omega arith) l
            | gt m ↦ past (i - length r) i (omega arith) l
          ]
