-- The line's two numbers and its space.
--     fields-space           the first space of `fields k n` stands behind k
--     fields_at              so a line of k and n has k before its first space and n behind it
--     fields_join            and the other way round
--     two_fields, no_fields  so a text by its first space
--     no-newline             no character of `fields k n` is a newline
--     text-bare, text-ended, text-newline    a text with no newline in it, with or without one behind it, by the last character
--     line-bare, line-ended  so the line of k and n
--     ended-says, bare-says  what the fields say, the line says; split-ended, split-bare by the last character and what stands before it
--     one_line               a line spells at most one pair
--     line-short             a line has at most 8 characters
--     one-parse              no line has two answers
use Rattle.words.proofs.Plain.{ℕ, suc, ◌+◌, ◌-◌, ◌<◌, ◌≤◌, add-one, arith, ◌≡◌, refl, sym, ap, ◌∙◌, ◌⊎◌, inl, inr, ⊎_elim, List, [], ◌∷◌, ◌++◌, eqb, length}
use Rattle.words.proofs.Plain.{get_or, take, drop, length-append, List·get_d-append, drop_of_length-le, take-append_seam, drop-append-add, get_or-append_seam}
use Rattle.words.proofs.Plain.{get_or-append-add, split_at, take_at, eqb-true, eqb-false}
use Rattle.words.proofs.Split.{lt, eq, gt, tri, passes, fails, test}
use Rattle.std.specs.Prelude.{Option, Some, None}
use Rattle.text_spec.specs.Decimal.{decimal}
use Rattle.line_spec.specs.Line.{fields, Spells, ParseSays, FieldsSays, TwoSays, SpaceAt}
use Rattle.text_spec.proofs.Digits.{decimal-digits, decimal-one, length-decimal}

-- ---- the space

pub fields-space : (k n : ℕ) → SpaceAt (fields k n) (length (decimal k))
unfolding fields
fields-space k n =
    record {
      within = simp length-append (omega arith);
      before = λ i h e. omega (arith, decimal-digits k i h, sym (List·get_d-append (decimal k) (32 ∷ decimal n) 0 i h) ∙ e);
      here = λ h. get_or-append_seam (decimal k) 32 (decimal n) 0;
    }

-- there is a space
pub space-in : (k n : ℕ) → length (decimal k) < length (fields k n)
unfolding fields
space-in k n = simp length-append (omega arith)

-- two first spaces are one
pub space-one : (t : List ℕ) (i j : ℕ) → SpaceAt t i → SpaceAt t j → j < length t → i ≡ j
space-one t i j p q h =
    elim (tri i j) [
      | lt l ↦ absurd (q.before i l (p.here (omega arith)))
      | eq l ↦ l
      | gt l ↦ absurd (p.before j l (q.here h))
    ]

module _ (k n : ℕ) where
  front : take (length (decimal k)) (fields k n) ≡ decimal k
  unfolding fields
  front = take-append_seam (decimal k) (32 ∷ decimal n)

  back : drop (length (decimal k) + 1) (fields k n) ≡ decimal n
  unfolding fields
  back = drop-append-add (decimal k) (32 ∷ decimal n) 1

  -- a line of k and n has k before its first space and n behind it
  pub fields_at : (t : List ℕ) (at : ℕ) → t ≡ fields k n → SpaceAt t at → (at < length t) × (take at t ≡ decimal k) × (drop (at + 1) t ≡ decimal n)
  fields_at t at e p =
      let i : at ≡ length (decimal k) = space-one (fields k n) at (length (decimal k)) (rw e at p) (fields-space k n) (space-in k n) in
      rw (e, i) (space-in k n, front, back)

-- the other way round
pub fields_join : (t : List ℕ) (at k n : ℕ) → SpaceAt t at → at < length t → take at t ≡ decimal k → drop (at + 1) t ≡ decimal n → t ≡ fields k n
unfolding fields
fields_join t at k n p h e f =
    let g : drop (suc at) t ≡ decimal n = rw (add-one at) at f in
    split_at t at 0 h ∙ rw (e, p.here h, g)

-- so a text with a number before its first space and one behind it
pub two_fields : (t : List ℕ) (at : ℕ) → SpaceAt t at → at < length t → (r : Option (ℕ × ℕ)) → TwoSays (take at t) (drop (at + 1) t) r → FieldsSays t r
two_fields t at p h (Some (k, n)) says = (says.0, says.1, fields_join t at k n p h says.2 says.3)
two_fields t at p h None says = λ k n hk hn e. let f = fields_at k n t at e p in says k n hk hn f.1 f.2

-- a text without a space
pub no_fields : (t : List ℕ) (at : ℕ) → SpaceAt t at → length t ≤ at → FieldsSays t None
no_fields t at p h = λ k n hk hn e. omega (arith, (fields_at k n t at e p).0)

-- ---- the newline

-- no character of the line is a newline
pub no-newline : (k n i : ℕ) → i < length (fields k n) → get_or (fields k n) i 0 ≡ 10 → ⊥
unfolding fields
no-newline k n i h e =
    elim (tri i (length (decimal k))) [
      | lt l ↦ omega (arith, decimal-digits k i l, sym (List·get_d-append (decimal k) (32 ∷ decimal n) 0 i l) ∙ e)
      | eq l ↦ omega (arith, sym (get_or-append_seam (decimal k) 32 (decimal n) 0) ∙ rw l at e)
      | gt l ↦ behind (i - length (decimal k) - 1) (omega arith)
    ]
  where
    behind : (j : ℕ) → i ≡ length (decimal k) + suc j → ⊥
    behind j q =
        let b : j < length (decimal n) = omega (arith, simp length-append at h) in
        omega (arith, decimal-digits n j b, sym (get_or-append-add (decimal k) (32 ∷ decimal n) (suc j) 0) ∙ rw q at e)

-- the last character
last_of : (t : List ℕ) (a : ℕ) → get_or (t ++ (a ∷ [])) (length (t ++ (a ∷ [])) - 1) 0 ≡ a
last_of t a =
    let e : length (t ++ (a ∷ [])) - 1 ≡ length t = simp length-append (omega arith) in
    rw e (get_or-append_seam t a [] 0)

-- a text with no newline in it, with or without one behind it, by the last character
module _ (s f : List ℕ) (plain : (i : ℕ) → i < length f → get_or f i 0 ≡ 10 → ⊥) where
  -- it does not end in a newline
  pub text-bare : (get_or s (length s - 1) 0 ≡ 10 → ⊥) → (s ≡ f) ⊎ (s ≡ f ++ (10 ∷ [])) → s ≡ f
  text-bare z = ⊎_elim (λ e. e) (λ e. absurd (z (rw e (last_of f 10))))

  -- it does
  pub text-ended : 0 < length s → get_or s (length s - 1) 0 ≡ 10 → (s ≡ f) ⊎ (s ≡ f ++ (10 ∷ [])) → take (length s - 1) s ≡ f
  text-ended l z = ⊎_elim (λ e. absurd (plain (length f - 1) (omega (arith, ap length e)) (rw e at z))) ended
    where
      ended : s ≡ f ++ (10 ∷ []) → take (length s - 1) s ≡ f
      ended e = ap (take (length s - 1)) e ∙ take_at f (10 ∷ []) (length s - 1) (omega (arith, simp length-append at (ap length e)))

-- what stands before the newline
pub text-newline : (s f : List ℕ) → 0 < length s → get_or s (length s - 1) 0 ≡ 10 → take (length s - 1) s ≡ f → s ≡ f ++ (10 ∷ [])
text-newline s f l z e =
    let d : drop (suc (length s - 1)) s ≡ [] = drop_of_length-le s {i = suc (length s - 1)} (omega arith) in
    split_at s (length s - 1) 0 (omega arith) ∙ rw (e, z, d)

-- the line by its last character
module _ (s : List ℕ) (k n : ℕ) where
  -- a line that does not end in a newline
  pub line-bare : 0 < length s → (get_or s (length s - 1) 0 ≡ 10 → ⊥) → Spells s k n → s ≡ fields k n
  line-bare l z p = text-bare s (fields k n) (no-newline k n) z p.text

  -- a line that ends in a newline
  pub line-ended : 0 < length s → get_or s (length s - 1) 0 ≡ 10 → Spells s k n → take (length s - 1) s ≡ fields k n
  line-ended l z p = text-ended s (fields k n) (no-newline k n) l z p.text

-- what the fields say, the line says
pub ended-says : (s : List ℕ) (p : Option (ℕ × ℕ)) → 0 < length s → get_or s (length s - 1) 0 ≡ 10 → FieldsSays (take (length s - 1) s) p → ParseSays s p
ended-says s (Some (k, n)) l z f = record { k-short = f.0; n-short = f.1; text = inr (text-newline s (fields k n) l z f.2) }
ended-says s None l z f = λ k n p. f k n p.k-short p.n-short (line-ended s k n l z p)

pub bare-says : (s : List ℕ) (p : Option (ℕ × ℕ)) → 0 < length s → (get_or s (length s - 1) 0 ≡ 10 → ⊥) → FieldsSays s p → ParseSays s p
bare-says s (Some (k, n)) l z f = record { k-short = f.0; n-short = f.1; text = inl f.2 }
bare-says s None l z f = λ k n p. f k n p.k-short p.n-short (line-bare s k n l z p)

-- so by the last character and what stands before it
module _ (s t : List ℕ) (a : ℕ) (p : Option (ℕ × ℕ)) (e : s ≡ t ++ (a ∷ [])) where
  last : get_or s (length s - 1) 0 ≡ a
  last = rw e (last_of t a)

  some : 0 < length s
  some = omega (arith, simp length-append at (ap length e))

  pub split-ended : a ≡ 10 → FieldsSays t p → ParseSays s p
  split-ended z f =
      let h : take (length s - 1) s ≡ t = rw e (take_at t (a ∷ []) (length (t ++ (a ∷ [])) - 1) (simp length-append (omega arith))) in
      ended-says s p some (last ∙ z) (rw h f)

  pub split-bare : (a ≡ 10 → ⊥) → FieldsSays s p → ParseSays s p
  split-bare z f = bare-says s p some (λ q. z (sym last ∙ q)) f

-- ---- one answer

-- two pairs with the same fields are one
pub fields-one : (k n k' n' : ℕ) → fields k n ≡ fields k' n' → (k ≡ k') × (n ≡ n')
fields-one k n k' n' e =
    let f = fields_at k n (fields k' n') (length (decimal k')) (sym e) (fields-space k' n') in
    (decimal-one k k' (sym f.1 ∙ front k' n'), decimal-one n n' (sym f.2 ∙ back k' n'))

pub length_fields : (k n : ℕ) → length (fields k n) ≡ length (decimal k) + length (decimal n) + 1
unfolding fields
length_fields k n = simp length-append (omega arith)

-- a line has characters
pub line-some : (s : List ℕ) (k n : ℕ) → Spells s k n → 0 < length s
line-some s k n p =
    ⊎_elim (λ e. omega (arith, ap length e, space-in k n)) (λ e. omega (arith, simp length-append at (ap length e), space-in k n)) p.text

-- and at most 8 of them: two numbers of three digits, a space and a newline
pub line-short : (s : List ℕ) (k n : ℕ) → Spells s k n → length s ≤ 8
line-short s k n p = ⊎_elim (λ e. omega (arith, ap length e, short)) (λ e. omega (arith, simp length-append at (ap length e), short)) p.text
  where
    short : length (fields k n) ≤ 7
    short = omega (arith, length_fields k n, length-decimal 2 k p.k-short, length-decimal 2 n p.n-short)

-- a line spells at most one pair
pub one_line : (s : List ℕ) (k n k' n' : ℕ) → Spells s k n → Spells s k' n' → (k ≡ k') × (n ≡ n')
one_line s k n k' n' p q =
    let l = line-some s k n p in
    elim (test (eqb (get_or s (length s - 1) 0) 10)) [
      | passes e ↦
          let z = eqb-true (get_or s (length s - 1) 0) 10 e in
          fields-one k n k' n' (sym (line-ended s k n l z p) ∙ line-ended s k' n' l z q)
      | fails e ↦
          let z = eqb-false (get_or s (length s - 1) 0) 10 e in
          fields-one k n k' n' (sym (line-bare s k n l z p) ∙ line-bare s k' n' l z q)
    ]

-- no line has two answers
pub one-parse : (s : List ℕ) (p q : Option (ℕ × ℕ)) → ParseSays s p → ParseSays s q → p ≡ q
one-parse s (Some (k, n)) (Some (k', n')) p q = let e = one_line s k n k' n' p q in cc
one-parse s (Some (k, n)) None p q = absurd (q k n p)
one-parse s None (Some (k, n)) p q = absurd (p k n q)
one-parse s None None p q = refl
