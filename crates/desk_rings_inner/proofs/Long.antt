-- How long the words are.
--     long_from n c s                        each word of s that a space ends has n characters, where c stand in front of the first
--     long-digit, long-space, long-wrong    one character more
--     on-digit, on-space, on-wrong, on-end  the same at a place of a text
--     long-true, long-false                 what it says of rings that the words spell
use Rattle.words.proofs.Plain.{ℕ, zero, suc, ◌+◌, ◌<◌, ◌≤◌, add-one, arith, ◌≡◌, refl, sym, ap, ◌∙◌, Bool, true, false, false≢true, List, [], ◌∷◌, ◌++◌, map}
use Rattle.words.proofs.Plain.{append_assoc, eqb, length, get_or, drop, length-map, drop_of_length-le, drop-cons, eq-eqb, ne_eqb, eqb-true, eqb-false}
use Rattle.words.proofs.Split.{passes, fails, test}
use Rattle.text_spec.specs.Text.{hex_of}
use Rattle.text_words_spec.specs.Words.{Nibbles}
use Rattle.desk_spec.specs.{Questions.EachNibbles, Sights.AsLong}
use Rattle.desk_rings_inner.specs.Says.{EachSays}
use Rattle.desk_rings_inner.proofs.Spaced.{spaced, digits-plain, pieces-spaced}

unfoldable pub long_from : ℕ → ℕ → List ℕ → Bool
long_from n c [] = true
long_from n c (a ∷ s) = elim (eqb a 32) [ true ↦ elim (eqb c n) [ true ↦ long_from n 0 s | false ↦ false ] | false ↦ long_from n (suc c) s ]

module _ (n c a : ℕ) (s : List ℕ) where
  pub long-digit : (a ≡ 32 → ⊥) → long_from n c (a ∷ s) ≡ long_from n (suc c) s
  unfolding long_from
  long-digit f = rw (ne_eqb a 32 f, long_from) refl

  pub long-space : a ≡ 32 → c ≡ n → long_from n c (a ∷ s) ≡ long_from n 0 s
  unfolding long_from
  long-space e f = rw (eq-eqb a 32 e, long_from, eq-eqb c n f) refl

  pub long-wrong : a ≡ 32 → (c ≡ n → ⊥) → long_from n c (a ∷ s) ≡ false
  unfolding long_from
  long-wrong e f = rw (eq-eqb a 32 e, long_from, ne_eqb c n f) refl

-- at a place of a text
module _ (u : List ℕ) (n i c : ℕ) (e : long_from n 0 u ≡ long_from n c (drop i u)) where
  pub on-digit : i < length u → (get_or u i 0 ≡ 32 → ⊥) → long_from n 0 u ≡ long_from n (c + 1) (drop (i + 1) u)
  on-digit h f = rw (add-one i, add-one c) (e ∙ ap (long_from n c) (drop-cons u i 0 h) ∙ long-digit n c (get_or u i 0) (drop (suc i) u) f)

  pub on-space : i < length u → get_or u i 0 ≡ 32 → c ≡ n → long_from n 0 u ≡ long_from n 0 (drop (i + 1) u)
  on-space h f g = rw (add-one i) (e ∙ ap (long_from n c) (drop-cons u i 0 h) ∙ long-space n c (get_or u i 0) (drop (suc i) u) f g)

  pub on-wrong : i < length u → get_or u i 0 ≡ 32 → (c ≡ n → ⊥) → long_from n 0 u ≡ false
  on-wrong h f g = e ∙ ap (long_from n c) (drop-cons u i 0 h) ∙ long-wrong n c (get_or u i 0) (drop (suc i) u) f g

  pub on-end : length u ≤ i → long_from n 0 u ≡ true
  unfolding long_from
  on-end h = e ∙ ap (long_from n c) (drop_of_length-le u h)

-- a word
long-word : (n c : ℕ) (x s : List ℕ) → ((i : ℕ) → i < length x → get_or x i 0 ≡ 32 → ⊥) → long_from n c (x ++ s) ≡ long_from n (c + length x) s
long-word n c [] s f = ap (λ (m : ℕ). long_from n m s) (omega arith)
long-word n c (a ∷ x) s f =
    long-digit n c a (x ++ s) (f 0 (omega arith)) ∙ long-word n (suc c) x s (λ i h. f (suc i) (omega arith)) ∙ ap (λ (m : ℕ). long_from n m s) (omega arith)

-- the last word, which no space ends
long-last : (n c : ℕ) (x : List ℕ) → ((i : ℕ) → i < length x → get_or x i 0 ≡ 32 → ⊥) → long_from n c x ≡ true
unfolding long_from
long-last n c [] f = refl
long-last n c (a ∷ x) f = long-digit n c a x (f 0 (omega arith)) ∙ long-last n (suc c) x (λ i h. f (suc i) (omega arith))

-- a ring in front of the others
long-ring : (n : ℕ) (t s : List ℕ) → Nibbles t → long_from n 0 (map hex_of t ++ (32 ∷ s)) ≡ long_from n (length t) (32 ∷ s)
long-ring n t s p = long-word n 0 (map hex_of t) (32 ∷ s) (digits-plain t p) ∙ ap (λ (m : ℕ). long_from n m (32 ∷ s)) (omega (arith, length-map t hex_of))

long-all : (n : ℕ) (ts : List (List ℕ)) (r : List ℕ) → EachNibbles ts → Nibbles r → AsLong n ts → long_from n 0 (spaced ts ++ map hex_of r) ≡ true
unfolding spaced
long-all n [] r p q l = long-last n 0 (map hex_of r) (digits-plain r q)
long-all n (t ∷ ts) r p q l =
    ap (long_from n 0) (append_assoc (map hex_of t) (32 ∷ spaced ts) (map hex_of r))
    ∙ long-ring n t (spaced ts ++ map hex_of r) (p 0 (omega arith))
    ∙ long-space n (length t) 32 (spaced ts ++ map hex_of r) refl (l 0 (omega arith))
    ∙ long-all n ts r (λ j h. p (suc j) (omega arith)) q (λ j h. l (suc j) (omega arith))

-- one ring in front of others
long-cons : (n : ℕ) (t : List ℕ) (ts : List (List ℕ)) → length t ≡ n → AsLong n ts → AsLong n (t ∷ ts)
long-cons n t ts e l zero h = e
long-cons n t ts e l (suc j) h = l j (omega arith)

-- and then each is
long-each : (n : ℕ) (ts : List (List ℕ)) (r : List ℕ) → EachNibbles ts → long_from n 0 (spaced ts ++ map hex_of r) ≡ true → AsLong n ts
unfolding spaced
long-each n [] r p e = λ j h. absurd (omega arith)
long-each n (t ∷ ts) r p e =
    let s = spaced ts ++ map hex_of r in
    let b : long_from n (length t) (32 ∷ s) ≡ true = sym (ap (long_from n 0) (append_assoc (map hex_of t) (32 ∷ spaced ts) (map hex_of r)) ∙ long-ring n t s (p 0 (omega arith))) ∙ e in
    elim (test (eqb (length t) n)) [
      | passes q ↦ let f = eqb-true (length t) n q in long-cons n t ts f (long-each n ts r (λ j h. p (suc j) (omega arith)) (sym (long-space n (length t) 32 s refl f) ∙ b))
      | fails q ↦ absurd (false≢true (sym (long-wrong n (length t) 32 s refl (eqb-false (length t) n q)) ∙ b))
    ]

-- ---- the rings that a text spells

module _ (u : List ℕ) (n : ℕ) where
  pub long-true : long_from n 0 u ≡ true → EachSays u n true
  long-true e q x = long-each n q.0 q.1 x.rings (sym (ap (long_from n 0) (pieces-spaced u q.0 q.1 x.words)) ∙ e)

  pub long-false : long_from n 0 u ≡ false → EachSays u n false
  long-false e q x l =
      false≢true (sym e ∙ ap (long_from n 0) (pieces-spaced u q.0 q.1 x.words) ∙ long-all n q.0 q.1 x.rings x.sectors l)
