-- Where a line prints one text, so do many, and an input.
--     one-texts      lines, one after another
--     one-prints     an input
--     texts-append   what two groups of lines print
--     texts-one      what one line prints
use Rattle.words.proofs.Plain.{ℕ, ◌≡◌, refl, sym, ap, subst, ◌∙◌, List, [], ◌∷◌, ◌++◌, append_assoc, append-nil}
use Rattle.stream_spec.specs.Lines.{lines}
use Rattle.stream_spec.specs.Texts.{Relation, Texts, done, more, Prints}

module _ (Answers : Relation) where
  -- two groups of lines
  pub texts-append : (ls ms : List (List ℕ)) (t u : List ℕ) → Texts Answers ls t → Texts Answers ms u → Texts Answers (ls ++ ms) (t ++ u)
  texts-append [] ms t u done q = q
  texts-append (s ∷ ls) ms t u (more {t = a} {u = x} p r) q =
      subst (λ (y : List ℕ). Texts Answers (s ∷ (ls ++ ms)) y) (sym (append_assoc a x u)) (more p (texts-append ls ms x u r q))

  -- one line
  pub texts-one : (s t : List ℕ) → Answers s t → Texts Answers (s ∷ []) t
  texts-one s t p = subst (λ (y : List ℕ). Texts Answers (s ∷ []) y) (append-nil t) (more p done)

  module _ (one : (s t u : List ℕ) → Answers s t → Answers s u → t ≡ u) where
    -- lines print one text
    pub one-texts : (ls : List (List ℕ)) (t u : List ℕ) → Texts Answers ls t → Texts Answers ls u → t ≡ u
    one-texts [] t u done done = refl
    one-texts (s ∷ ls) t u (more {t = a} {u = x} p q) (more {t = b} {u = y} f g) =
        ap (λ (z : List ℕ). z ++ x) (one s a b p f) ∙ ap (λ (z : List ℕ). b ++ z) (one-texts ls x y q g)

    -- an input prints one text
    pub one-prints : (s t u : List ℕ) → Prints Answers s t → Prints Answers s u → t ≡ u
    one-prints s t u p q = one-texts (lines s) t u p q
