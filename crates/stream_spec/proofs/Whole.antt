-- The lines of an input are those that a reader would name: each with its newline, joined, and behind them what has none, they are the input again.
--     ended-plain, under-plain    no line has a newline in it
--     ended-whole                 with their newlines, and with what is under way behind them, they are the input
--     cut-is                      so `ended` and `under` cut the input as `Cuts` says
--     cut-one                     and nothing else does
use Rattle.words.proofs.Plain.{ℕ, ◌≡◌, refl, sym, ap, ◌∙◌, true, false, List, [], ◌∷◌, ◌++◌, append_assoc, append-nil, eqb, eq-eqb, ne_eqb, eqb-true, eqb-false}
use Rattle.words.proofs.Split.{passes, fails, test}
use Rattle.text_spec.specs.Ascii.{newline}
use Rattle.stream_spec.specs.Lines.{ended, under, Plain, none, also, Plains, nones, alsos, closed, Cuts}
use Rattle.stream_spec.proofs.Bytes.{ended-newline, ended-other, under-newline, under-other, ended-none, under_none, ended-append, under-append}

-- ---- no newlines

plain-on : (u : List ℕ) (b : ℕ) → Plain u → (b ≡ newline → ⊥) → Plain (u ++ (b ∷ []))
plain-on [] b none h = also h none
plain-on (a ∷ u) b (also e p) h = also e (plain-on u b p h)

pub ended-plain : (u s : List ℕ) → Plain u → Plains (ended u s)
ended-plain u [] p = rw (ended-none u) nones
ended-plain u (b ∷ s) p =
    elim (test (eqb b newline)) [
      | passes e ↦ rw (ended-newline u b s e) (alsos p (ended-plain [] s none))
      | fails e ↦ rw (ended-other u b s e) (ended-plain (u ++ (b ∷ [])) s (plain-on u b p (eqb-false b newline e)))
    ]

pub under-plain : (u s : List ℕ) → Plain u → Plain (under u s)
under-plain u [] p = rw (under_none u) p
under-plain u (b ∷ s) p =
    elim (test (eqb b newline)) [
      | passes e ↦ rw (under-newline u b s e) (under-plain [] s none)
      | fails e ↦ rw (under-other u b s e) (under-plain (u ++ (b ∷ [])) s (plain-on u b p (eqb-false b newline e)))
    ]

-- ---- the input again

closed-more : (u : List ℕ) (ls : List (List ℕ)) (v : List ℕ) → closed (u ∷ ls) ++ v ≡ u ++ (newline ∷ (closed ls ++ v))
unfolding closed
closed-more u ls v = append_assoc u (newline ∷ closed ls) v

closed_none : (v : List ℕ) → closed [] ++ v ≡ v
unfolding closed
closed_none v = refl

pub ended-whole : (u s : List ℕ) → u ++ s ≡ closed (ended u s) ++ under u s
ended-whole u [] = rw (ended-none u, under_none u, closed_none u) (append-nil u)
ended-whole u (b ∷ s) =
    elim (test (eqb b newline)) [
      | passes e ↦
          rw (ended-newline u b s e, under-newline u b s e, closed-more u (ended [] s) (under [] s))
          (ap (λ (x : List ℕ). u ++ x) (ap (λ (c : ℕ). c ∷ s) (eqb-true b newline e) ∙ ap (λ (x : List ℕ). newline ∷ x) (ended-whole [] s)))
      | fails e ↦ rw (ended-other u b s e, under-other u b s e) (sym (append_assoc u (b ∷ []) s) ∙ ended-whole (u ++ (b ∷ [])) s)
    ]

pub cut-is : (s : List ℕ) → Cuts s (ended [] s) (under [] s)
cut-is s = record { whole = ended-whole [] s; plains = ended-plain [] s none; plain = under-plain [] s none }

-- ---- in one way

-- a line with no newline in it goes on
plain-ended : (u v : List ℕ) → Plain v → ended u v ≡ []
plain-ended u [] none = ended-none u
plain-ended u (b ∷ v) (also h p) = ended-other u b v (ne_eqb b newline h) ∙ plain-ended (u ++ (b ∷ [])) v p

plain-under : (u v : List ℕ) → Plain v → under u v ≡ u ++ v
plain-under u [] none = under_none u ∙ sym (append-nil u)
plain-under u (b ∷ v) (also h p) = under-other u b v (ne_eqb b newline h) ∙ plain-under (u ++ (b ∷ [])) v p ∙ append_assoc u (b ∷ []) v

at-newline : eqb newline newline ≡ true
at-newline = eq-eqb newline newline refl

line-ended : (v s : List ℕ) → Plain v → ended [] (v ++ (newline ∷ s)) ≡ v ∷ ended [] s
line-ended v s p =
    ended-append [] v (newline ∷ s)
    ∙ rw (plain-ended [] v p, plain-under [] v p) (ended-newline v newline s at-newline)

line-under : (v s : List ℕ) → Plain v → under [] (v ++ (newline ∷ s)) ≡ under [] s
line-under v s p = under-append [] v (newline ∷ s) ∙ under-newline (under [] v) newline s at-newline

lines-ended : (ls : List (List ℕ)) (v : List ℕ) → Plains ls → Plain v → (ended [] (closed ls ++ v) ≡ ls) × (under [] (closed ls ++ v) ≡ v)
lines-ended [] v nones q = rw (closed_none v) (plain-ended [] v q, plain-under [] v q)
lines-ended (u ∷ ls) v (alsos p r) q =
    let i = lines-ended ls v r q in
    rw (closed-more u ls v)
    (line-ended u (closed ls ++ v) p ∙ ap (λ (x : List (List ℕ)). u ∷ x) i.0, line-under u (closed ls ++ v) p ∙ i.1)

pub cut-one : (s : List ℕ) (ls : List (List ℕ)) (u : List ℕ) → Cuts s ls u → (ended [] s ≡ ls) × (under [] s ≡ u)
cut-one s ls u c = rw c.whole (lines-ended ls u c.plains c.plain)
