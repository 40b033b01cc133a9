-- The exchange. In a clear list of words, s the least and g the greatest, some copy of s can be joined with some copy of g, so that the list stays clear.
--     Over s g y          y is above s: s lies under y, or y is s and more, of which g is at most the rest
--     Other s g y         y is above s, and at most g
--     Stands s g y        y is a copy of s, or above s and at most g
--     Exchanged ..        a clear list that has s ++ g in place of one s and one g
-- In order: the words above s; the last copy of s in a list; the three ways to join; the exchange.
use Rattle.words.proofs.Plain.{ℕ, ◌+◌, ◌<◌, arith, ◌≡◌, refl, sym, ap, ◌∙◌, subst, List, [], ◌∷◌, ◌++◌, append_assoc, length, length-append}
use Rattle.shades_laws.proofs.Under.{◌≪◌, ◌≼◌, is, under, under-trans, under-irrefl, under-longer, under-extended, under-behind, under-upto}
use Rattle.words.proofs.Readings.{All, nothing, also, all_left, all_right, all_append, all-weaken}
use Rattle.shades_laws.proofs.Copies.{each-rest, each_at, copies, copies-cons, copies-append, Found, found}
use Rattle.shades_laws.proofs.Clear.{read, Clear, onto, clear_first, clear-rest, clear-back, clear-raised, clear_above}

-- y is above s: s lies under y, or y is s and more, and g is at most that rest
pub data Over (s g y : List ℕ) : Type 0 where
  higher : s ≪ y → Over s g y
  longer : (h : List ℕ) → 0 < length h → y ≡ s ++ h → g ≼ h → Over s g y

-- y is above s, and at most g
pub record Other (s g y : List ℕ) : Type 0 where
  pub above : Over s g y
  pub most : y ≼ g

-- y is a copy of s, or above s and at most g
pub data Stands (s g y : List ℕ) : Type 0 where
  copy : y ≡ s → Stands s g y
  other : Other s g y → Stands s g y

-- a word above s is not s
pub over-not : {s g y : List ℕ} → Over s g y → y ≡ s → ⊥
over-not (higher r) e = under-irrefl (sym e) r
over-not {s} (longer h z q p) e = omega (arith, ap length (sym e ∙ q) ∙ length-append s h)

-- a word above s is above s followed by anything under g
pub over-rises : {s g y z : List ℕ} → z ≪ g → Over s g y → (s ++ z) ≪ y
over-rises {z} p (higher r) = under-longer z r
over-rises {s} {z} p (longer h l e q) = subst (λ x. (s ++ z) ≪ x) (sym e) (under-behind s (under-upto p q))

-- ---- the last copy of s

-- a list with no copy of s, or cut at its last copy of s
data LastCopy (s g : List ℕ) (xs : List (List ℕ)) : Type 0 where
  without : All (Other s g) xs → LastCopy s g xs
  with-copy : (front back : List (List ℕ)) → xs ≡ front ++ s ∷ back → All (Other s g) back → LastCopy s g xs

-- where each word stands, the last copy is found from behind
last-copy : {s g : List ℕ} {xs : List (List ℕ)} → All (Stands s g) xs → LastCopy s g xs
last-copy nothing = without nothing
last-copy {s} {g} (also {w = x} {ws = xs} p e) = go p (last-copy e)
  where
    go : Stands s g x → LastCopy s g xs → LastCopy s g (x ∷ xs)
    go p (with-copy front back q h) = with-copy (x ∷ front) back (ap (λ r. x ∷ r) q) h
    go (copy q) (without h) = with-copy [] xs (ap (λ r. r ∷ xs) q) h
    go (other o) (without h) = without (also o h)

-- ---- three ways to join s and g

-- a clear list that has s ++ g in place of one s and one g
pub record Exchanged (al t s g : List ℕ) (xs : List (List ℕ)) : Type 0 where
  pub new : List (List ℕ)
  pub clear : Clear al t new
  pub counts : (y : List ℕ) → copies y new + copies y (s ∷ g ∷ []) ≡ copies y xs + copies y ((s ++ g) ∷ [])

module _ (al t s g : List ℕ) where
  -- s and g stand side by side
  beside : (a q : List (List ℕ)) → Clear al t (a ++ s ∷ g ∷ q) → Exchanged al t s g (a ++ s ∷ g ∷ q)
  unfolding read
  beside a q c = record {
    new = a ++ (s ++ g) ∷ q;
    clear = clear-raised a (s ∷ g ∷ q) ((s ++ g) ∷ q) (is (sym (append_assoc s g (read al q)))) c (onto (λ r. clear_first ending (rw append_assoc at r)) (clear-rest (clear-rest ending)));
    counts = λ y. simp (copies-append, copies-cons) (omega arith);
  }
    where
      ending : Clear al t (s ∷ g ∷ q)
      ending = clear-back a (s ∷ g ∷ q) c

  -- s followed by z under g reads lower than s ++ g
  step-up : (z : List ℕ) (q r : List (List ℕ)) → z ≪ g → (s ++ read al (z ∷ q)) ≪ ((s ++ g) ++ read al r)
  unfolding read
  step-up z q r p = rw (append_assoc s g (read al r)) (under-behind s (under-longer (read al q) (under-extended (read al r) p)))

  -- what a clear list says of the two words that it begins with
  two-first : (z : List ℕ) (q : List (List ℕ)) → Clear al t (s ∷ z ∷ q) → ((s ++ z) ++ read al q) ≪ t → ⊥
  unfolding read
  two-first z q c r = clear_first c (rw append_assoc at r)

  -- s stands before g, and no copy of s between
  forth : (a : List (List ℕ)) (z : List ℕ) (b d : List (List ℕ)) → z ≪ g → All (Other s g) (z ∷ b) → Clear al t (a ++ s ∷ z ∷ (b ++ g ∷ d)) → Exchanged al t s g (a ++ s ∷ z ∷ (b ++ g ∷ d))
  unfolding read
  forth a z b d p o c = record {
    new = a ++ (s ++ g) ∷ (z ∷ b ++ d);
    clear = clear-raised a (s ∷ z ∷ (b ++ g ∷ d)) ((s ++ g) ∷ (z ∷ b ++ d)) (under up) c (onto (λ r. clear_first ending (under-trans up r)) between);
    counts = λ y. simp (copies-append, copies-cons) (omega arith);
  }
    where
      ending : Clear al t (s ∷ z ∷ (b ++ g ∷ d))
      ending = clear-back a (s ∷ z ∷ (b ++ g ∷ d)) c

      up : (s ++ read al (z ∷ (b ++ g ∷ d))) ≪ ((s ++ g) ++ read al (z ∷ b ++ d))
      up = step-up z (b ++ g ∷ d) (z ∷ b ++ d) p

      between : Clear al t (z ∷ b ++ d)
      between =
          clear_above (s ++ z) (read al (b ++ g ∷ d)) (two-first z (b ++ g ∷ d) ending) (all-weaken (λ y h. over-rises p h.above) o)
          (clear-rest (clear-back (z ∷ b) (g ∷ d) (clear-rest ending)))

  -- g stands before s, and no copy of s before g
  back : (a b : List (List ℕ)) (z : List ℕ) (q : List (List ℕ)) → z ≪ g → All (Other s g) a → Clear al t (a ++ g ∷ (b ++ s ∷ z ∷ q)) → Exchanged al t s g (a ++ g ∷ (b ++ s ∷ z ∷ q))
  unfolding read
  back a b z q p o c = record {
    new = a ++ (b ++ (s ++ g) ∷ z ∷ q);
    clear =
        clear_above (s ++ z) (read al q) (two-first z q ending) (all-weaken (λ y h. over-rises p h.above) o)
        (clear-raised b (s ∷ z ∷ q) ((s ++ g) ∷ z ∷ q) (under up) behind (onto (λ r. clear_first ending (under-trans up r)) (clear-rest ending)));
    counts = λ y. simp (copies-append, copies-cons) (omega arith);
  }
    where
      behind : Clear al t (b ++ s ∷ z ∷ q)
      behind = clear-rest (clear-back a (g ∷ (b ++ s ∷ z ∷ q)) c)

      ending : Clear al t (s ∷ z ∷ q)
      ending = clear-back b (s ∷ z ∷ q) behind

      up : (s ++ read al (z ∷ q)) ≪ ((s ++ g) ++ read al (z ∷ q))
      up = step-up z q (z ∷ q) p

  -- ---- the exchange

  -- a copy of s before g
  from-before : (a b d : List (List ℕ)) → All (Other s g) b → Clear al t (a ++ s ∷ (b ++ g ∷ d)) → Exchanged al t s g (a ++ s ∷ (b ++ g ∷ d))
  from-before a [] d nothing c = beside a d c
  from-before a (z ∷ b) d (also o e) c = elim o.most [ is q ↦ next-to q | under p ↦ forth a z b d p (also o e) c ]
    where
      next-to : z ≡ g → Exchanged al t s g (a ++ s ∷ z ∷ (b ++ g ∷ d))
      next-to q = rw q (beside a (b ++ g ∷ d) (rw q at c))

  -- no copy of s before g: the last one behind it
  from-behind : (s ++ al) ≪ t → (a b q : List (List ℕ)) → All (Other s g) a → All (Other s g) q → Clear al t (a ++ g ∷ (b ++ s ∷ q)) → Exchanged al t s g (a ++ g ∷ (b ++ s ∷ q))
  unfolding read
  from-behind low a b [] o nothing c = absurd (clear_first (clear-back b (s ∷ []) (clear-rest (clear-back a (g ∷ (b ++ s ∷ [])) c))) low)
  from-behind low a b (z ∷ q) o (also h e) c = elim h.most [ is r ↦ next-to r | under p ↦ back a b z q p o c ]
    where
      next-to : z ≡ g → Exchanged al t s g (a ++ g ∷ (b ++ s ∷ z ∷ q))
      next-to r = rw (r, e₁) (beside (a ++ g ∷ b) q (subst (Clear al t) e₁ (rw r at c)))
        where
          e₁ : a ++ g ∷ (b ++ s ∷ g ∷ q) ≡ (a ++ g ∷ b) ++ s ∷ g ∷ q
          e₁ = sym (append_assoc a (g ∷ b) (s ∷ g ∷ q))

  -- the exchange in a list cut at g
  at_cut : (s ++ al) ≪ t → Over s g g → (a d : List (List ℕ)) → All (Stands s g) a → All (Stands s g) d → 0 < copies s (a ++ g ∷ d) → Clear al t (a ++ g ∷ d) → Exchanged al t s g (a ++ g ∷ d)
  at_cut low top a d e k p c = elim (last-copy e) [ with-copy f b q h ↦ first_way f b q h | without o ↦ elim (last-copy k) [ with-copy f b q h ↦ second_way o f b q h | without h ↦ no_way o h ] ]
    where
      no_way : All (Other s g) a → All (Other s g) d → Exchanged al t s g (a ++ g ∷ d)
      no_way o h = absurd (over-not (each_at (all_append o (also (record { above = top; most = is refl }) h)) s p).above refl)

      first_way : (f b : List (List ℕ)) → a ≡ f ++ s ∷ b → All (Other s g) b → Exchanged al t s g (a ++ g ∷ d)
      first_way f b q h = subst (Exchanged al t s g) (sym whole) (from-before f b d h (subst (Clear al t) whole c))
        where
          whole : a ++ g ∷ d ≡ f ++ s ∷ (b ++ g ∷ d)
          whole = ap (λ x. x ++ g ∷ d) q ∙ append_assoc f (s ∷ b) (g ∷ d)

      second_way : All (Other s g) a → (f b : List (List ℕ)) → d ≡ f ++ s ∷ b → All (Other s g) b → Exchanged al t s g (a ++ g ∷ d)
      second_way o f b q h = rw q (from-behind low a f b o h (rw q at c))

  -- where s, read on into al, lies under t, some s and some g of a clear list can be joined
  pub exchange : (s ++ al) ≪ t → Over s g g → (xs : List (List ℕ)) → All (Stands s g) xs → 0 < copies s xs → 0 < copies g xs → Clear al t xs → Exchanged al t s g xs
  exchange low top xs e p q c = go (found g xs q)
    where
      go : Found g xs → Exchanged al t s g xs
      go f = rw f.cut (at_cut low top f.front f.back (all_left f.front (g ∷ f.back) e') (each-rest (all_right f.front (g ∷ f.back) e')) (rw f.cut at p) (rw f.cut at c))
        where
          e' : All (Stands s g) (f.front ++ g ∷ f.back)
          e' = rw f.cut at e
