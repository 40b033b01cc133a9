-- A line writes one record or is refused with one refusal, and never both; so an input writes one text or has one first refused line.
--     one-ring               a line is one number and one reading
--     line-bytes             a line writes the bytes of the record of its kind, shades and reading
--     one-record, one-bad    a line writes one text, and has one refusal
--     never-both-line        and never both
--     one_writes             an input writes one text
--     one-refused-line       it has one first refused line, and one refusal of it
--     never-both-input       and never both
use Rattle.words.proofs.Plain.{ℕ, suc, arith, ◌≡◌, refl, sym, ap, subst, ◌∙◌, List, [], ◌∷◌, ◌++◌, length}
use Rattle.text_words_spec.proofs.Pieces.{first-same, behind-same}
use Rattle.refusal.specs.{declared.Refusal.Refusal, Order.Passed, Calls.one_reading}
use Rattle.refusal.proofs.Unique.{never_both, one-refusal}
use Rattle.record_spec.specs.declared.Kind.{Kind}
use Rattle.record_spec.proofs.Wrote.{record_bytes}
use Rattle.stream_spec.specs.Lines.{lines}
use Rattle.stream_spec.specs.Texts.{Texts, more}
use Rattle.stream_spec.proofs.Unique.{one-prints}
use Rattle.desk_spec.proofs.Questions.{one-reading}
use Rattle.files_spec.proofs.Unique.{filled-bytes}
use Rattle.files_write_spec.specs.RingLines.{RingLine, LineWrites, LineRefused, unread, given}
use Rattle.files_write_spec.specs.Inputs.{LinesWrite, FirstRefused}

-- ---- a line

module _ (s : List ℕ) where
  pub one-ring : (p q : ℕ × List ℕ) → RingLine s p → RingLine s q → p ≡ q
  one-ring p q a b = one-reading s p q a.reads b.reads

  -- what it writes are the bytes of the record of the kind that was asked for
  pub line-bytes : (x : Kind) (t : List ℕ) (a : LineWrites x s t) → t ≡ record_bytes x a.asked.0 a.asked.1
  line-bytes x t a = filled-bytes a.asked.1 a.asked.0 x t a.writes

  pub one-record : (x : Kind) (t u : List ℕ) → LineWrites x s t → LineWrites x s u → t ≡ u
  one-record x t u a b =
      let e = one-ring a.asked b.asked a.reads b.reads in
      line-bytes x t a ∙ ap (λ (q : ℕ × List ℕ). record_bytes x q.0 q.1) e ∙ sym (line-bytes x u b)

  pub one-bad : (r q : Refusal) → LineRefused s r → LineRefused s q → r ≡ q
  one-bad r q (unread n e) (unread m f) = e ∙ sym f
  one-bad r q (unread n e) (given a h g) = absurd (n a h)
  one-bad r q (given a h g) (unread n e) = absurd (n a h)
  one-bad r q (given a h g) (given b i k) = one-refusal (one_reading b.1 b.0) r q (rw (one-ring a b h i) at g) k

  pub never-both-line : (x : Kind) (t : List ℕ) (r : Refusal) → LineWrites x s t → LineRefused s r → ⊥
  never-both-line x t r a (unread n e) = n a.asked a.reads
  never-both-line x t r a (given q h g) =
      never_both (one_reading q.1 q.0) r g (subst (λ (p : ℕ × List ℕ). Passed (one_reading p.1 p.0)) (one-ring a.asked q a.reads h) a.writes.written.passed)

-- ---- an input

module _ (x : Kind) where
  pub one_writes : (s t u : List ℕ) → LinesWrite x s t → LinesWrite x s u → t ≡ u
  one_writes s t u p q = one-prints (LineWrites x) (λ l. one-record l x) s t u p q

  -- lines that all write, beside lines of which one is refused behind some that write
  never-all : (ls before behind : List (List ℕ)) (line t : List ℕ) (r : Refusal) → Texts (LineWrites x) ls t → ls ≡ before ++ (line ∷ behind) → LineRefused line r → ⊥
  never-all [] [] behind line t r p e h = omega (arith, ap length e)
  never-all [] (l ∷ before) behind line t r p e h = omega (arith, ap length e)
  never-all (s ∷ ls) [] behind line t r (more {t = a} p q) e h = never-both-line s x a r p (rw (sym (first-same _ _ _ _ e)) at h)
  never-all (s ∷ ls) (l ∷ before) behind line t r (more {u = u} p q) e h = never-all ls before behind line u r q (behind-same _ _ _ _ e) h

  pub never-both-input : (s t : List ℕ) (n : ℕ) (r : Refusal) → LinesWrite x s t → FirstRefused x s n r → ⊥
  never-both-input s t n r p f = never-all (lines s) f.before f.behind f.line t r p f.cut f.refused

  same_place : (a b c d : List (List ℕ)) (l m t u : List ℕ) (r q : Refusal) → a ++ (l ∷ c) ≡ b ++ (m ∷ d) →
      Texts (LineWrites x) a t → Texts (LineWrites x) b u → LineRefused l r → LineRefused m q → (length a ≡ length b) × (r ≡ q)
  same_place [] [] c d l m t u r q e p f g h = (refl, one-bad m r q (rw (first-same _ _ _ _ e) at g) h)
  same_place [] (y ∷ b) c d l m t u r q e p (more {t = v} f f') g h = absurd (never-both-line y x v r f (rw (first-same _ _ _ _ e) at g))
  same_place (y ∷ a) [] c d l m t u r q e (more {t = v} p p') f g h = absurd (never-both-line y x v q p (rw (sym (first-same _ _ _ _ e)) at h))
  same_place (y ∷ a) (z ∷ b) c d l m t u r q e (more {u = v} p p') (more {u = w} f f') g h =
      let i = same_place a b c d l m v w r q (behind-same _ _ _ _ e) p' f' g h in
      (ap suc i.0, i.1)

  pub one-refused-line : (s : List ℕ) (n m : ℕ) (r q : Refusal) → FirstRefused x s n r → FirstRefused x s m q → (n ≡ m) × (r ≡ q)
  one-refused-line s n m r q f g =
      let i = same_place f.before g.before f.behind g.behind f.line g.line f.text g.text r q (sym f.cut ∙ g.cut) f.good g.good f.refused g.refused in
      (f.number ∙ ap suc i.0 ∙ sym g.number, i.1)
