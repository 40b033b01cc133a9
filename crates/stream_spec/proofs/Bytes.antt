-- The lines of an input byte after byte, and block after block.
--     ended-newline, ended-other, under-newline, under-other    one byte
--     ended-append, under-append    two blocks
--     ended-on, ended_same, under-on, under_same    one byte more behind a block: it ends the line under way, or it is added to it
--     last_some, last_none          a line under way that has bytes is a line
use Rattle.words.proofs.Plain.{ℕ, ◌<◌, arith, ◌≡◌, refl, ap, ◌∙◌, true, false, List, [], ◌∷◌, ◌++◌, append-nil, eqb, length}
use Rattle.words.proofs.Split.{passes, fails, test}
use Rattle.text_spec.specs.Ascii.{newline}
use Rattle.stream_spec.specs.Lines.{ended, under, last_of}

-- ---- one byte

module _ (u : List ℕ) (b : ℕ) (s : List ℕ) where
  pub ended-newline : eqb b newline ≡ true → ended u (b ∷ s) ≡ u ∷ ended [] s
  unfolding ended
  ended-newline e = rw (e, ended)

  pub ended-other : eqb b newline ≡ false → ended u (b ∷ s) ≡ ended (u ++ (b ∷ [])) s
  unfolding ended
  ended-other e = rw (e, ended)

  pub under-newline : eqb b newline ≡ true → under u (b ∷ s) ≡ under [] s
  unfolding under
  under-newline e = rw (e, under)

  pub under-other : eqb b newline ≡ false → under u (b ∷ s) ≡ under (u ++ (b ∷ [])) s
  unfolding under
  under-other e = rw (e, under)

pub ended-none : (u : List ℕ) → ended u [] ≡ []
unfolding ended
ended-none u = refl

pub under_none : (u : List ℕ) → under u [] ≡ u
unfolding under
under_none u = refl

-- ---- two blocks

pub ended-append : (u s t : List ℕ) → ended u (s ++ t) ≡ ended u s ++ ended (under u s) t
ended-append u [] t = rw (ended-none u, under_none u)
ended-append u (b ∷ s) t =
    elim (test (eqb b newline)) [
      | passes e ↦ rw (ended-newline u b (s ++ t) e, ended-newline u b s e, under-newline u b s e) (ap (λ (x : List (List ℕ)). u ∷ x) (ended-append [] s t))
      | fails e ↦ rw (ended-other u b (s ++ t) e, ended-other u b s e, under-other u b s e) (ended-append (u ++ (b ∷ [])) s t)
    ]

pub under-append : (u s t : List ℕ) → under u (s ++ t) ≡ under (under u s) t
under-append u [] t = rw (under_none u)
under-append u (b ∷ s) t =
    elim (test (eqb b newline)) [
      | passes e ↦ rw (under-newline u b (s ++ t) e, under-newline u b s e) (under-append [] s t)
      | fails e ↦ rw (under-other u b (s ++ t) e, under-other u b s e) (under-append (u ++ (b ∷ [])) s t)
    ]

-- ---- one byte more

module _ (u s : List ℕ) (b : ℕ) where
  -- a newline ends the line under way
  pub ended-on : eqb b newline ≡ true → ended u (s ++ (b ∷ [])) ≡ ended u s ++ (under u s ∷ [])
  ended-on e = ended-append u s (b ∷ []) ∙ ap (λ (x : List (List ℕ)). ended u s ++ x) (ended-newline (under u s) b [] e ∙ ap (λ (x : List (List ℕ)). under u s ∷ x) (ended-none []))

  pub under-on : eqb b newline ≡ true → under u (s ++ (b ∷ [])) ≡ []
  under-on e = under-append u s (b ∷ []) ∙ under-newline (under u s) b [] e ∙ under_none []

  -- any other byte is added to it
  pub ended_same : eqb b newline ≡ false → ended u (s ++ (b ∷ [])) ≡ ended u s
  ended_same e =
      ended-append u s (b ∷ [])
      ∙ ap (λ (x : List (List ℕ)). ended u s ++ x) (ended-other (under u s) b [] e ∙ ended-none (under u s ++ (b ∷ [])))
      ∙ append-nil (ended u s)

  pub under_same : eqb b newline ≡ false → under u (s ++ (b ∷ [])) ≡ under u s ++ (b ∷ [])
  under_same e = under-append u s (b ∷ []) ∙ under-other (under u s) b [] e ∙ under_none (under u s ++ (b ∷ []))

-- ---- a last line

pub last_some : (u : List ℕ) → 0 < length u → last_of u ≡ u ∷ []
unfolding last_of
last_some [] h = absurd (omega arith)
last_some (b ∷ u) h = refl

pub last_none : (u : List ℕ) → length u ≡ 0 → last_of u ≡ []
unfolding last_of
last_none [] h = refl
last_none (b ∷ u) h = absurd (omega arith)
