-- However an input is cut into blocks, it prints the same.
--     kept_on         what is kept of a line and a byte more
--     tells-same      two lines with the same first bytes print the same
--     tells_more      where some first bytes tell, more tell too
--     lines-kept      where two beginnings of a line have the same first bytes, what follows prints the same behind either
--     run-lines       a run prints what the lines from its state on print
--     run-prints      a run from the start prints what the whole input prints
--     cut-anyhow      so two runs of one input print the same, whatever blocks they had
use Rattle.words.proofs.Plain.{ℕ, zero, suc, ◌≤◌, arith, ◌≡◌, refl, sym, ap, subst, ◌∙◌, true, false, List, [], ◌∷◌, ◌++◌, append_assoc, eqb, length, take}
use Rattle.words.proofs.Plain.{length-take, take-take}
use Rattle.words.proofs.Split.{passes, fails, test}
use Rattle.text_spec.specs.Ascii.{newline}
use Rattle.stream_spec.specs.Lines.{ended, under, last_of, lines_from, lines}
use Rattle.stream_spec.specs.Texts.{Relation, Texts, done, more, Prints, Tells, BlockRun, over, block}
use Rattle.stream_spec.proofs.Bytes.{ended-newline, ended-other, under-newline, under-other, ended-none, under_none, ended-append, under-append}
use Rattle.stream_spec.proofs.Unique.{texts-append, one-prints}

-- ---- what is kept

-- what is kept of what is kept and a byte more
pub kept_more : (m : ℕ) (u : List ℕ) (b : ℕ) → take m (take m u ++ (b ∷ [])) ≡ take m (u ++ (b ∷ []))
kept_more zero u b = refl
kept_more (suc m) [] b = refl
kept_more (suc m) (a ∷ u) b = ap (λ (x : List ℕ). a ∷ x) (kept_more m u b)

-- lines with the same first bytes keep them when a byte is added
pub kept_on : (m : ℕ) (u v : List ℕ) (b : ℕ) → take m u ≡ take m v → take m (u ++ (b ∷ [])) ≡ take m (v ++ (b ∷ []))
kept_on m u v b e = sym (kept_more m u b) ∙ ap (λ (x : List ℕ). take m (x ++ (b ∷ []))) e ∙ kept_more m v b

-- ---- one byte of what follows

from-newline : (u : List ℕ) (b : ℕ) (s : List ℕ) → eqb b newline ≡ true → lines_from u (b ∷ s) ≡ u ∷ lines_from [] s
unfolding lines_from
from-newline u b s e = rw (ended-newline u b s e, under-newline u b s e)

from-other : (u : List ℕ) (b : ℕ) (s : List ℕ) → eqb b newline ≡ false → lines_from u (b ∷ s) ≡ lines_from (u ++ (b ∷ [])) s
unfolding lines_from
from-other u b s e = rw (ended-other u b s e, under-other u b s e)

from-none : (u : List ℕ) → lines_from u [] ≡ last_of u
unfolding lines_from
from-none u = rw (ended-none u, under_none u)

-- the lines of two blocks
lines-append : (u s t : List ℕ) → lines_from u (s ++ t) ≡ ended u s ++ lines_from (under u s) t
unfolding lines_from
lines-append u s t = rw (ended-append u s t, under-append u s t) (append_assoc (ended u s) (ended (under u s) t) (last_of (under (under u s) t)))

-- ---- the beginning of a line

module _ (Answers : Relation) (most : ℕ) (tells : Tells Answers most) where
  pub tells-same : (u v t : List ℕ) → take most u ≡ take most v → Answers u t → Answers v t
  tells-same u v t e p = tells.first v t (rw e at (tells.kept u t p))

  -- more tell too
  pub tells_more : (m : ℕ) → most ≤ m → Tells Answers m
  tells_more m h =
      record {
        some = omega (arith, tells.some);
        one = tells.one;
        first = λ s t p. tells-same (take m s) s t (take-take most m s h) p;
        kept = λ s t p. tells-same s (take m s) t (sym (take-take most m s h)) p;
      }

  -- a last line
  last-kept : (u v t : List ℕ) → take most u ≡ take most v → Texts Answers (last_of u) t → Texts Answers (last_of v) t
  unfolding last_of
  last-kept [] [] t e p = p
  last-kept [] (b ∷ v) t e p = absurd (omega (arith, tells.some, simp length-take at (ap length e)))
  last-kept (a ∷ u) [] t e p = absurd (omega (arith, tells.some, simp length-take at (ap length e)))
  last-kept (a ∷ u) (b ∷ v) t e (more {t = x} p q) = more (tells-same (a ∷ u) (b ∷ v) x e p) q

  -- what follows prints the same behind either
  pub lines-kept : (u v s t : List ℕ) → take most u ≡ take most v → Texts Answers (lines_from u s) t → Texts Answers (lines_from v s) t
  lines-kept u v [] t e p = rw (from-none v) (last-kept u v t e (rw (from-none u) at p))
  lines-kept u v (b ∷ s) t e p =
      elim (test (eqb b newline)) [
        | passes f ↦ rw (from-newline v b s f) (first t (rw (from-newline u b s f) at p))
        | fails f ↦ rw (from-other v b s f) (lines-kept (u ++ (b ∷ [])) (v ++ (b ∷ [])) s t (kept_on most u v b e) (rw (from-other u b s f) at p))
      ]
    where
      first : (x : List ℕ) → Texts Answers (u ∷ lines_from [] s) x → Texts Answers (v ∷ lines_from [] s) x
      first x (more {t = y} q r) = more (tells-same u v y e q) r

  -- a run prints what the lines from its state on print
  pub run-lines : (u s text : List ℕ) → BlockRun Answers most u s text → Texts Answers (lines_from u s) text
  run-lines u s text (over p) = rw (from-none u) p
  run-lines u s text (block {rest = rest} {t = t} {text = y} x p q) =
      let k = take most (under u x) in
      let j = lines-kept k (under u x) rest y (take-take most most (under u x) (omega arith)) (run-lines k rest y q) in
      rw (lines-append u x rest) (texts-append Answers (ended u x) (lines_from (under u x) rest) t y p j)

  -- a run from the start prints what the whole input prints
  pub run-prints : (s text : List ℕ) → BlockRun Answers most [] s text → Prints Answers s text
  unfolding lines
  run-prints s text r = run-lines [] s text r

  -- two runs of one input print the same
  pub cut-anyhow : (s t u : List ℕ) → BlockRun Answers most [] s t → BlockRun Answers most [] s u → t ≡ u
  cut-anyhow s t u p q = one-prints Answers tells.one s t u (run-prints s t p) (run-prints s u q)
