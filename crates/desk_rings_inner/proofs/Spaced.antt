-- The words of a text, and the text that has spaces between them.
--     spaced ts                    the words of the readings ts, a space behind each
--     spaced-pieces, pieces-spaced the words of a text are those of rings and a reading exactly where it is them, with spaces between
--     words-cons                   there is a word
--     Glyph, text-glyphs           each character of such a text is a space or a digit
use Rattle.words.proofs.Plain.{ℕ, zero, suc, ◌+◌, ◌<◌, add-one, arith, ◌≡◌, refl, sym, ap, ◌∙◌, ◌⊎◌, inl, inr, List, [], ◌∷◌, ◌++◌, map, append_assoc, length}
use Rattle.words.proofs.Plain.{get_or, take, drop, split_at, eq-eqb, ne_eqb}
use Rattle.text_spec.specs.Text.{hex_of}
use Rattle.text_words_spec.specs.Words.{onto, pieces, Nibbles}
use Rattle.text_words_spec.proofs.Pieces.{pieces-single, piece-end, more-two, more-first, more-rest}
use Rattle.text_words_spec.proofs.Spelling.{spelt-plain, hex-kinds}
use Rattle.desk_spec.specs.Questions.{EachNibbles, words_of}

-- the words, a space behind each
unfoldable pub spaced : List (List ℕ) → List ℕ
spaced [] = []
spaced (t ∷ ts) = map hex_of t ++ (32 ∷ spaced ts)

-- no digit is a space
pub digit-plain : (a : ℕ) → a < 16 → hex_of a ≡ 32 → ⊥
digit-plain a h e = elim (hex-kinds a h) [ inl x ↦ omega (arith, x.0, e) | inr x ↦ omega (arith, x.0, e) ]

-- ---- from the text to its words

plain-front : (sep : ℕ) (x s : List ℕ) → ((i : ℕ) → i < length x → get_or x i 0 ≡ sep → ⊥) → pieces sep (x ++ (sep ∷ s)) ≡ x ∷ pieces sep s
unfolding pieces onto
plain-front sep [] s f = rw (eq-eqb sep sep refl, pieces) refl
plain-front sep (a ∷ x) s f = rw (ne_eqb a sep (f 0 (omega arith)), pieces) (ap (onto a) (plain-front sep x s (λ i h. f (suc i) (omega arith))))

pub digits-plain : (w : List ℕ) → Nibbles w → (i : ℕ) → i < length (map hex_of w) → get_or (map hex_of w) i 0 ≡ 32 → ⊥
digits-plain [] p i h e = absurd (omega arith)
digits-plain (a ∷ w) p zero h e = digit-plain a (p 0 (omega arith)) e
digits-plain (a ∷ w) p (suc i) h e = digits-plain w (λ j g. p (suc j) (omega arith)) i (omega arith) e

pub spaced-pieces : (ts : List (List ℕ)) (r : List ℕ) → EachNibbles ts → Nibbles r → pieces 32 (spaced ts ++ map hex_of r) ≡ words_of ts r
unfolding spaced
spaced-pieces [] r p n = spelt-plain 32 (map hex_of r) r (omega arith) (record { digits = refl; below = n })
spaced-pieces (t ∷ ts) r p n =
    ap (pieces 32) (append_assoc (map hex_of t) (32 ∷ spaced ts) (map hex_of r))
    ∙ plain-front 32 (map hex_of t) (spaced ts ++ map hex_of r) (digits-plain t (p 0 (omega arith)))
    ∙ ap (λ (x : List (List ℕ)). map hex_of t ∷ x) (spaced-pieces ts r (λ j h. p (suc j) (omega arith)) n)

-- ---- and back

pub words-cons : (ts : List (List ℕ)) (r : List ℕ) → (x : List ℕ) × (xs : List (List ℕ)) × (words_of ts r ≡ x ∷ xs)
words-cons [] r = (map hex_of r, [], refl)
words-cons (t ∷ ts) r = (map hex_of t, words_of ts r, refl)

pub pieces-spaced : (u : List ℕ) (ts : List (List ℕ)) (r : List ℕ) → pieces 32 u ≡ words_of ts r → u ≡ spaced ts ++ map hex_of r
unfolding spaced
pieces-spaced u [] r e = pieces-single 32 u (map hex_of r) e
pieces-spaced u (t ∷ ts) r e =
    let q = piece-end 32 u in
    let c = words-cons ts r in
    let d = e ∙ ap (λ (x : List (List ℕ)). map hex_of t ∷ x) c.2 in
    let h = more-two 32 u q.0 q.1 _ _ _ d in
    let f : take q.0 u ≡ map hex_of t = more-first 32 u q.0 q.1 _ _ _ d in
    let w = more-rest 32 u q.0 q.1 _ _ _ d ∙ sym c.2 in
    let b : drop (suc q.0) u ≡ spaced ts ++ map hex_of r = ap (λ (i : ℕ). drop i u) (sym (add-one q.0)) ∙ pieces-spaced (drop (q.0 + 1) u) ts r w in
    let s : get_or u q.0 0 ≡ 32 = q.1.here h in
    split_at u q.0 0 h
    ∙ ap (λ (x : List ℕ). x ++ get_or u q.0 0 ∷ drop (suc q.0) u) f
    ∙ ap (λ (x : ℕ). map hex_of t ++ x ∷ drop (suc q.0) u) s
    ∙ ap (λ (x : List ℕ). map hex_of t ++ 32 ∷ x) b
    ∙ sym (append_assoc (map hex_of t) (32 ∷ spaced ts) (map hex_of r))

-- ---- its characters

abbrev pub Glyph : ℕ → Type 0
Glyph b = (b ≡ 32) ⊎ ((a : ℕ) × (a < 16) × (hex_of a ≡ b))

each_append : (x s : List ℕ) → ((i : ℕ) → i < length x → Glyph (get_or x i 0)) → ((i : ℕ) → i < length s → Glyph (get_or s i 0)) → (i : ℕ) → i < length (x ++ s) → Glyph (get_or (x ++ s) i 0)
each_append [] s f g i h = g i h
each_append (a ∷ x) s f g zero h = f 0 (omega arith)
each_append (a ∷ x) s f g (suc i) h = each_append x s (λ j l. f (suc j) (omega arith)) g i (omega arith)

each-digit : (w : List ℕ) → Nibbles w → (i : ℕ) → i < length (map hex_of w) → Glyph (get_or (map hex_of w) i 0)
each-digit [] p i h = absurd (omega arith)
each-digit (a ∷ w) p zero h = inr (a, p 0 (omega arith), refl)
each-digit (a ∷ w) p (suc i) h = each-digit w (λ j g. p (suc j) (omega arith)) i (omega arith)

each-spaced : (ts : List (List ℕ)) → EachNibbles ts → (i : ℕ) → i < length (spaced ts) → Glyph (get_or (spaced ts) i 0)
unfolding spaced
each-spaced [] p = λ i h. absurd (omega arith)
each-spaced (t ∷ ts) p = each_append (map hex_of t) (32 ∷ spaced ts) (each-digit t (p 0 (omega arith))) (behind (each-spaced ts (λ j h. p (suc j) (omega arith))))
  where
    behind : ((i : ℕ) → i < length (spaced ts) → Glyph (get_or (spaced ts) i 0)) → (i : ℕ) → i < length (32 ∷ spaced ts) → Glyph (get_or (32 ∷ spaced ts) i 0)
    behind f zero h = inl refl
    behind f (suc i) h = f i (omega arith)

pub text-glyphs : (ts : List (List ℕ)) (r : List ℕ) → EachNibbles ts → Nibbles r → (i : ℕ) → i < length (spaced ts ++ map hex_of r) → Glyph (get_or (spaced ts ++ map hex_of r) i 0)
text-glyphs ts r p n = each_append (spaced ts) (map hex_of r) (each-spaced ts p) (each-digit r n)
