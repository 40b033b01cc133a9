-- A number and what stands behind it.
--     head-number, head-none, head-alone     by the first word
--     rest-one                               where one word stands behind it, it is the rest of the text
use Rattle.words.proofs.Plain.{ℕ, ◌+◌, ◌<◌, ◌≤◌, arith, ◌≡◌, sym, ap, ◌∙◌, List, ◌∷◌, length, take, drop}
use Rattle.text_spec.specs.Decimal.{decimal}
use Rattle.text_words_spec.specs.Words.{pieces, PieceAt}
use Rattle.text_words_spec.proofs.Pieces.{pieces_more, more-two, more-first, behind-same}
use Rattle.std.specs.Prelude.{Some, None}
use Rattle.desk_words_inner.specs.Says.{HeadAtSays, HeadSays}

module _ (sep : ℕ) (t : List ℕ) (e : ℕ) (p : PieceAt sep t e) where
  -- there is one piece
  pub head-alone : length t ≤ e → HeadAtSays sep t None
  head-alone h k u us s q = omega (arith, h, more-two sep t e p (decimal k) u us q)

  -- it is no number
  pub head-none : ((k : ℕ) → k < 1000 → take e t ≡ decimal k → ⊥) → HeadAtSays sep t None
  head-none n k u us s q = n k s (more-first sep t e p (decimal k) u us q)

  -- it is one
  pub head-number : (k : ℕ) → (k < 1000) × (take e t ≡ decimal k) → e < length t → HeadAtSays sep t (Some (k, e + 1))
  head-number k n h = (n.0, omega arith, pieces_more sep t e p h ∙ ap (λ (x : List ℕ). x ∷ pieces sep (drop (e + 1) t)) n.1, omega arith)

-- what stands behind a number
pub rest-words : (t : List ℕ) (k at : ℕ) → HeadSays t (Some (k, at)) → (j : ℕ) (us : List (List ℕ)) → pieces 32 t ≡ decimal j ∷ us → pieces 32 (drop at t) ≡ us
rest-words t k at h j us q = behind-same _ _ _ _ (sym h.2 ∙ q)
