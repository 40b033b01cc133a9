-- Looking for a reading on a strip, place after place, sector after sector.
--     Agrees s p w i                         the first i sectors of w stand at place p
--     agrees-more                            one sector more
--     agrees-all, agrees-not                 all of them, so that w stands there; one that does not
--     Passed s w p                           w stands at no place before p
--     passed-more, passed-hit, passed-all    one place more; w stands there; there is no place left
use Rattle.words.proofs.Plain.{ℕ, ◌+◌, ◌%◌, ◌≤◌, ◌<◌, arith, ◌≡◌, sym, ap, ◌∙◌, true, false, List, length, get_or, ext_get_or}
use Rattle.words.specs.{Search.tab, Order.same}
use Rattle.words.proofs.Split.{lt, eq, gt, tri, clash}
use Rattle.words.proofs.Search.{length-tab, get_d-tab}
use Rattle.words.proofs.Lex.{same_true, true_same, same_false}
use Rattle.strip_spec.specs.Places.{window, OnePlace}

module _ (s : List ℕ) (p : ℕ) (w : List ℕ) where
  -- the first i sectors of w stand at place p
  abbrev pub Agrees : ℕ → Type 0
  Agrees i = (j : ℕ) → j < i → get_or s ((p + j) % length s) 0 ≡ get_or w j 0

  pub agrees-more : (i : ℕ) → Agrees i → get_or s ((p + i) % length s) 0 ≡ get_or w i 0 → Agrees (i + 1)
  agrees-more i a e j h = elim (tri j i) [ lt l ↦ a j l | eq l ↦ rw l e | gt l ↦ absurd (omega arith) ]

  pub agrees-all : (i : ℕ) → length w ≤ i → Agrees i → true ≡ same (window (length w) s p) w
  unfolding window
  agrees-all i b a =
      let long = length-tab (length w) (λ h. get_or s ((p + h) % length s) 0) in
      sym (true_same (tab (length w) (λ h. get_or s ((p + h) % length s) 0)) w
      (ext_get_or 0 (tab (length w) (λ h. get_or s ((p + h) % length s) 0)) w long
      (λ j h. get_d-tab (length w) (λ h. get_or s ((p + h) % length s) 0) j 0 (omega (arith, long)) ∙ a j (omega (arith, long)))))

  pub agrees-not : (i : ℕ) → i < length w → (get_or s ((p + i) % length s) 0 ≡ get_or w i 0 → ⊥) → false ≡ same (window (length w) s p) w
  unfolding window
  agrees-not i b f =
      sym (same_false (tab (length w) (λ h. get_or s ((p + h) % length s) 0)) w
      (λ e. f (sym (get_d-tab (length w) (λ h. get_or s ((p + h) % length s) 0) i 0 b) ∙ ap (λ (u : List ℕ). get_or u i 0) e)))

module _ (s w : List ℕ) where
  -- w stands at no place before p
  abbrev pub Passed : ℕ → Type 0
  Passed p = (q : ℕ) → q < p → window (length w) s q ≡ w → ⊥

  pub passed-more : (p : ℕ) → Passed p → false ≡ same (window (length w) s p) w → Passed (p + 1)
  passed-more p a f q h e =
      elim (tri q p) [
        | lt l ↦ a q l e
        | eq l ↦ clash (same (window (length w) s p) w) (true_same (window (length w) s p) w (rw l at e)) (sym f)
        | gt l ↦ absurd (omega arith)
      ]

  -- w stands at p, so p is the one place
  pub passed-hit : (p : ℕ) → (o : (q : ℕ) × OnePlace s w q) → p < length s → true ≡ same (window (length w) s p) w → OnePlace s w p
  passed-hit p (q, o) b t =
      let e : window (length w) s p ≡ w = same_true (window (length w) s p) w (sym t) in
      rw (o.only p b e) o

  -- there is no place left, though there is one
  pub passed-all : (p : ℕ) → (o : (q : ℕ) × OnePlace s w q) → length s ≤ p → Passed p → ⊥
  passed-all p (q, o) b a = a q (omega (arith, o.within)) o.stands
