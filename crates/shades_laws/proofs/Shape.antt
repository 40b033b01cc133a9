-- The order in which a pool of words stands: copies of the least word s first, then words above s, rising, and g the last of them all.
-- In the words of the method: of two words the earlier is at most the later, or the earlier is s and the later begins with s (its rule J1), and where a
-- word is s and more, g is at most that rest (its rule J2). `Over` of Exchange says both of a word and s.
--     Rising xs           each word of the list is at most each later one
--     final x xs          the last word of x ∷ xs
--     Shape s xs          the order of a pool whose least word is s
--     Ladder s g xs       the same of a pool that is more than copies of s: g is its last word, xs the words between
-- In order: rising lists; the last word; the shape, how it arises (`settle`) and how joining s with g keeps it (`shape-first`, `shape-later`).
use Rattle.words.proofs.Plain.{ℕ, suc, ◌<◌, arith, ◌≡◌, refl, sym, ap, ◌∙◌, subst, List, [], ◌∷◌, ◌++◌, length, length-append, replicate}
use Rattle.shades_laws.proofs.Under.{◌≪◌, ◌≼◌, here, later, is, under, under-longer, under-behind, under-upto, upto-behind, upto-trans}
use Rattle.words.proofs.Readings.{All, nothing, also, all_left, all_right, all-weaken, all_append}
use Rattle.shades_laws.proofs.Copies.{each-zip, each-replicate}
use Rattle.shades_laws.proofs.Exchange.{Over, higher, longer, Stands, copy, other}

-- each word of the list is at most each later one
pub data Rising : List (List ℕ) → Type 0 where
  flat : Rising []
  step : {x : List ℕ} {xs : List (List ℕ)} → All (λ y. x ≼ y) xs → Rising xs → Rising (x ∷ xs)

-- a rising list rises without its last word
pub rising-front : (xs : List (List ℕ)) (g : List ℕ) → Rising (xs ++ g ∷ []) → Rising xs
rising-front [] g r = flat
rising-front (x ∷ xs) g (step h r) = step (all_left xs (g ∷ []) h) (rising-front xs g r)

-- each word is at most the last
pub rising-top : (xs : List (List ℕ)) (g : List ℕ) → Rising (xs ++ g ∷ []) → All (λ y. y ≼ g) xs
rising-top [] g r = nothing
rising-top (x ∷ xs) g (step h r) = also (only (all_right xs (g ∷ []) h)) (rising-top xs g r)
  where
    only : All (λ y. x ≼ y) (g ∷ []) → x ≼ g
    only (also p e) = p

-- the last word of x ∷ xs
unfoldable pub final : List ℕ → List (List ℕ) → List ℕ
final x [] = x
final x (y ∷ xs) = final y xs

-- what holds of each word holds of the last
pub final-each : {P : List ℕ → Type 0} (x : List ℕ) {xs : List (List ℕ)} → P x → All P xs → P (final x xs)
unfolding final
final-each x p nothing = p
final-each x p (also {w = y} q e) = final-each y q e

-- ---- the shape

-- the order of a pool whose least word is s: copies of s, then rising words above s
pub record Shape (s : List ℕ) (xs : List (List ℕ)) : Type 0 where
  pub extra : ℕ
  pub rest : List (List ℕ)
  pub whole : xs ≡ replicate (suc extra) s ++ rest
  pub long : 0 < length s
  pub above : All (Over s (final s rest)) rest
  pub rising : Rising rest

-- a rising list with its least word in front has a shape
pub settle : (s : List ℕ) → 0 < length s → (xs : List (List ℕ)) → All (λ y. s ≼ y) xs → Rising xs → Shape s (s ∷ xs)
settle s z [] h r = record { extra = 0; rest = []; whole = refl; long = z; above = nothing; rising = flat }
settle s z (x ∷ xs) (also (is q) h) (step k r) = once_more (settle s z xs h r)
  where
    once_more : Shape s (s ∷ xs) → Shape s (s ∷ x ∷ xs)
    once_more p = record { extra = suc p.extra; rest = p.rest; whole = ap (λ u. s ∷ u) (rw (← q) p.whole); long = z; above = p.above; rising = p.rising }
settle s z (x ∷ xs) (also (under p) h) (step k r) = record {
  extra = 0;
  rest = x ∷ xs;
  whole = refl;
  long = z;
  above = also (higher p) (all-weaken (λ y u. higher (under-upto p u)) k);
  rising = step k r;
}

-- ---- joining s with the last word

-- less is asked of the rest where the last word is less
pub over-lower : {s g l y : List ℕ} → l ≼ g → Over s g y → Over s l y
over-lower p (higher r) = higher r
over-lower p (longer h z e q) = longer h z e (upto-trans p q)

-- s joined with g is at most each word above s
pub joined-upto : {s g y : List ℕ} → Over s g y → (s ++ g) ≼ y
joined-upto {g} (higher r) = under (under-longer g r)
joined-upto {s} {g} (longer h z e q) = subst (λ x. (s ++ g) ≼ x) (sym e) (upto-behind s q)

-- s joined with g is under g
pub joined-under : {s g : List ℕ} → 0 < length s → Over s g g → (s ++ g) ≪ g
joined-under {g} z (higher r) = under-longer g r
joined-under {s} {g} z (longer h l e (is q)) = absurd (omega (arith, ap length e ∙ length-append s h, ap length q))
joined-under {s} {g} z (longer h l e (under r)) = subst (λ x. (s ++ g) ≪ x) (sym e) (under-behind s r)

-- a word above s is not empty
pub over-long : {s g y : List ℕ} → Over s g y → 0 < length y
over-long (higher (here p)) = omega arith
over-long (higher (later p r)) = omega arith
over-long {s} (longer h z e q) = omega (arith, ap length e ∙ length-append s h)

-- g is the last word and s the least, and xs the words between that are no copies of s
pub record Ladder (s g : List ℕ) (xs : List (List ℕ)) : Type 0 where
  pub long : 0 < length s
  pub above : All (Over s g) (xs ++ g ∷ [])
  pub rising : Rising (xs ++ g ∷ [])

module _ {s g : List ℕ} {xs : List (List ℕ)} (l : Ladder s g xs) where
  -- the last word is above s
  pub ladder-top : Over s g g
  ladder-top = only (all_right xs (g ∷ []) l.above)
    where
      only : All (Over s g) (g ∷ []) → Over s g g
      only (also p e) = p

  -- the joined word is at most each word between
  joined-first : All (λ y. (s ++ g) ≼ y) xs
  joined-first = all-weaken (λ y. joined-upto) (all_left xs (g ∷ []) l.above)

  -- each word of the pool is a copy of s, or above s and at most g
  pub ladder-stands : (n : ℕ) → All (Stands s g) (replicate n s ++ (xs ++ g ∷ []))
  ladder-stands n =
      all_append (each-replicate n s (copy refl))
      (each-zip (λ y a m. other (record { above = a; most = m })) l.above (all_append (rising-top xs g l.rising) (also (is refl) nothing)))

  -- the joined word is the new least one
  pub shape-first : Shape (s ++ g) ((s ++ g) ∷ xs)
  shape-first = settle (s ++ g) (rw (length-append s g) (omega (arith, l.long))) xs joined-first (rising-front xs g l.rising)

  -- a copy of s is left in front
  pub shape-later : (n : ℕ) → Shape s (replicate (suc n) s ++ (s ++ g) ∷ xs)
  unfolding final
  shape-later n = record {
    extra = n;
    rest = (s ++ g) ∷ xs;
    whole = refl;
    long = l.long;
    above = also (longer g (over-long ladder-top) refl lower) (all-weaken (λ y. over-lower lower) (all_left xs (g ∷ []) l.above));
    rising = step joined-first (rising-front xs g l.rising);
  }
    where
      lower : final s ((s ++ g) ∷ xs) ≼ g
      lower = final-each (s ++ g) (under (joined-under l.long ladder-top)) (rising-top xs g l.rising)
