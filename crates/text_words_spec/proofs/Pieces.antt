-- The pieces of a text.
--     pieces_more      the first piece, where a separator ends it, and those behind it
--     pieces-one       the only piece
--     pieces-some      there is one
--     pieces-single    where there is only one it is the text
--     more-first, more-rest, more-two    two pieces or more: the first, what stands behind it, and that a separator ends the first
--     pieces-plain     a text without separators is its only piece
use Rattle.words.proofs.Plain.{ℕ, zero, suc, ◌+◌, ◌<◌, ◌≤◌, add-one, arith, dec_lt, ◌≡◌, refl, sym, ap, ◌∙◌, true, false, List, [], ◌∷◌, eqb, length, get_or, take}
use Rattle.words.proofs.Plain.{drop, eq-eqb, ne_eqb, eqb-true, eqb-false}
use Rattle.words.proofs.Split.{passes, fails, test}
use Rattle.text_words_spec.specs.Words.{onto, pieces, PieceAt}

tail_at : (sep a : ℕ) (s : List ℕ) (r : ℕ) → PieceAt sep (a ∷ s) (suc r) → PieceAt sep s r
tail_at sep a s r p =
    record {
      within = omega (arith, p.within);
      before = λ i h. p.before (suc i) (omega arith);
      here = λ h. p.here (omega arith);
    }

-- one character more
piece-ends : (sep a : ℕ) (s : List ℕ) → a ≡ sep → pieces sep (a ∷ s) ≡ [] ∷ pieces sep s
unfolding pieces
piece-ends sep a s e = rw (eq-eqb a sep e, pieces) refl

piece-goes : (sep a : ℕ) (s : List ℕ) → (a ≡ sep → ⊥) → pieces sep (a ∷ s) ≡ onto a (pieces sep s)
unfolding pieces
piece-goes sep a s e = rw (ne_eqb a sep e, pieces) refl

more : (sep : ℕ) (s : List ℕ) (r : ℕ) → PieceAt sep s r → r < length s → pieces sep s ≡ take r s ∷ pieces sep (drop (suc r) s)
unfolding onto
more sep [] r p h = absurd (omega arith)
more sep (a ∷ s) zero p h = piece-ends sep a s (p.here h)
more sep (a ∷ s) (suc r) p h = piece-goes sep a s (p.before 0 (omega arith)) ∙ ap (onto a) (more sep s r (tail_at sep a s r p) (omega arith))

-- the first piece and those behind it
pub pieces_more : (sep : ℕ) (s : List ℕ) (r : ℕ) → PieceAt sep s r → r < length s → pieces sep s ≡ take r s ∷ pieces sep (drop (r + 1) s)
pieces_more sep s r p h = rw (add-one r) (more sep s r p h)

-- the only piece
pub pieces-one : (sep : ℕ) (s : List ℕ) (r : ℕ) → PieceAt sep s r → length s ≤ r → pieces sep s ≡ s ∷ []
unfolding pieces onto
pieces-one sep [] r p h = refl
pieces-one sep (a ∷ s) zero p h = absurd (omega arith)
pieces-one sep (a ∷ s) (suc r) p h = piece-goes sep a s (p.before 0 (omega arith)) ∙ ap (onto a) (pieces-one sep s r (tail_at sep a s r p) (omega arith))

-- a text without separators
pub pieces-plain : (sep : ℕ) (s : List ℕ) → ((i : ℕ) → i < length s → get_or s i 0 ≡ sep → ⊥) → pieces sep s ≡ s ∷ []
pieces-plain sep s f = pieces-one sep s (length s) (record { within = omega arith; before = f; here = λ h. absurd (omega arith) }) (omega arith)

-- ---- from the pieces to the text

-- the first of some texts, and those behind it
abbrev pub first_text : List (List ℕ) → List ℕ
first_text [] = []
first_text (u ∷ us) = u

abbrev pub behind_first : List (List ℕ) → List (List ℕ)
behind_first [] = []
behind_first (u ∷ us) = us

pub first-same : (u v : List ℕ) (us vs : List (List ℕ)) → u ∷ us ≡ v ∷ vs → u ≡ v
first-same u v us vs e = ap first_text e

pub behind-same : (u v : List ℕ) (us vs : List (List ℕ)) → u ∷ us ≡ v ∷ vs → us ≡ vs
behind-same u v us vs e = ap behind_first e

pub none-some : (u : List ℕ) (us : List (List ℕ)) → [] ≡ u ∷ us → ⊥
none-some u us e = let z : 0 ≡ suc (length us) = ap (λ (x : List (List ℕ)). length x) e in omega arith

-- a first piece ends somewhere
pub piece-end : (sep : ℕ) (s : List ℕ) → (r : ℕ) × PieceAt sep s r
piece-end sep [] = (0, record { within = omega arith; before = λ i h. absurd (omega arith); here = λ h. absurd (omega arith) })
piece-end sep (a ∷ s) =
    elim (test (eqb a sep)) [
      | passes e ↦ (0, record { within = omega arith; before = λ i h. absurd (omega arith); here = λ h. eqb-true a sep e })
      | fails e ↦ let q = piece-end sep s in (suc q.0, record { within = omega (arith, q.1.within); before = ne q.0 q.1 (eqb-false a sep e); here = λ h. q.1.here (omega arith) })
    ]
  where
    ne : (r : ℕ) → PieceAt sep s r → (a ≡ sep → ⊥) → (i : ℕ) → i < suc r → get_or (a ∷ s) i 0 ≡ sep → ⊥
    ne r p f zero h = f
    ne r p f (suc i) h = p.before i (omega arith)

-- there is a piece
pub pieces-some : (sep : ℕ) (s : List ℕ) → pieces sep s ≡ [] → ⊥
pieces-some sep s e =
    let q = piece-end sep s in
    elim (dec_lt q.0 (length s)) [
      | yes h ↦ none-some _ _ (sym e ∙ pieces_more sep s q.0 q.1 h)
      | no h ↦ none-some _ _ (sym e ∙ pieces-one sep s q.0 q.1 (omega arith))
    ]

-- where there is one piece it is the text
pub pieces-single : (sep : ℕ) (s x : List ℕ) → pieces sep s ≡ x ∷ [] → s ≡ x
pieces-single sep s x e =
    let q = piece-end sep s in
    elim (dec_lt q.0 (length s)) [
      | yes h ↦ absurd (pieces-some sep (drop (q.0 + 1) s) (behind-same _ _ _ _ (sym (pieces_more sep s q.0 q.1 h) ∙ e)))
      | no h ↦ first-same _ _ _ _ (sym (pieces-one sep s q.0 q.1 (omega arith)) ∙ e)
    ]

-- two pieces or more, by the place where the first ends
module _ (sep : ℕ) (s : List ℕ) (r : ℕ) (p : PieceAt sep s r) (u v : List ℕ) (vs : List (List ℕ)) (e : pieces sep s ≡ u ∷ v ∷ vs) where
  pub more-two : r < length s
  more-two =
      elim (dec_lt r (length s)) [
        | yes h ↦ h
        | no h ↦ absurd (none-some v vs (behind-same s u [] (v ∷ vs) (sym (pieces-one sep s r p (omega arith)) ∙ e)))
      ]

  both : take r s ∷ pieces sep (drop (r + 1) s) ≡ u ∷ v ∷ vs
  both = sym (pieces_more sep s r p more-two) ∙ e

  pub more-first : take r s ≡ u
  more-first = first-same _ _ _ _ both

  pub more-rest : pieces sep (drop (r + 1) s) ≡ v ∷ vs
  more-rest = behind-same _ _ _ _ both
