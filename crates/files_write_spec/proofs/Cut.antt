-- An input of lines cut anywhere, and gone through block after block.
--     writes-tells, refused-first     only the first 4,096 bytes of a line tell: a longer one cannot be read
--     run-writes, write-anyhow        what an input writes, however it was cut
--     ended-kept, under-kept          what follows the beginning of a line, where only its first bytes are kept
--     Gone x c u n                    the input c was gone through, all n lines that end in it write, and u is kept of the line under way
--     gone-none, gone-on, gone-few    no bytes yet, and a block more; no more lines end than there are bytes
--     gone-last                       the end, where the line under way writes too, or there is none
--     gone-refused, last-refused      a line that is refused: one that ends, and the last
use Rattle.words.proofs.Plain.{ℕ, ◌+◌, ◌<◌, ◌≤◌, arith, dec_lt, ◌≡◌, refl, sym, ap, ◌∙◌, List, [], ◌∷◌, ◌++◌, append-nil}
use Rattle.words.proofs.Plain.{eqb, length, take, length-append, length-take, take_all, take-take, eq-eqb}
use Rattle.words.proofs.Split.{passes, fails, test}
use Rattle.text_spec.specs.Ascii.{newline}
use Rattle.refusal.specs.declared.Refusal.{Refusal}
use Rattle.record_spec.specs.declared.Kind.{Kind}
use Rattle.stream_spec.specs.Lines.{ended, under, last_of, lines_from, lines}
use Rattle.stream_spec.specs.Texts.{Texts, done, more, Tells, BlockRun}
use Rattle.stream_spec.proofs.Bytes.{ended-newline, ended-other, under-newline, under-other, ended-none, under_none, ended-append, under-append, ended-on, under-on, last_some, last_none}
use Rattle.stream_spec.proofs.Unique.{texts-append}
use Rattle.stream_spec.proofs.Cut.{kept_on, tells-same, lines-kept, run-prints, cut-anyhow}
use Rattle.files_write_spec.specs.RingLines.{most_kept, LineWrites, LineRefused, unread, given}
use Rattle.files_write_spec.specs.Inputs.{LinesWrite, FirstRefused}
use Rattle.files_write_spec.proofs.Unique.{one-record}

first-long : (s : List ℕ) → 4095 < length s → 4095 < length (take most_kept s)
first-long s h = simp length-take (omega arith)

-- ---- the first bytes tell

pub writes-tells : (x : Kind) → Tells (LineWrites x) most_kept
writes-tells x =
    record {
      some = omega arith;
      one = λ s. one-record s x;
      first = λ s t p. elim (dec_lt 4095 (length s)) [ yes h ↦ absurd (omega (arith, p.reads.within, first-long s h)) | no h ↦ rw (take_all most_kept s (omega arith)) at p ];
      kept = λ s t p. rw (take_all most_kept s (omega (arith, p.reads.within))) p;
    }

pub refused-first : (s : List ℕ) (r : Refusal) → LineRefused (take most_kept s) r → LineRefused s r
refused-first s r h = elim (dec_lt 4095 (length s)) [ yes l ↦ long l h | no l ↦ rw (take_all most_kept s (omega arith)) at h ]
  where
    long : 4095 < length s → LineRefused (take most_kept s) r → LineRefused s r
    long l (unread n e) = unread (λ q a. omega (arith, l, a.within)) e
    long l (given q a g) = absurd (omega (arith, a.within, first-long s l))

-- ---- however it was cut

pub run-writes : (x : Kind) (s text : List ℕ) → BlockRun (LineWrites x) most_kept [] s text → LinesWrite x s text
run-writes x s text r = run-prints (LineWrites x) most_kept (writes-tells x) s text r

pub write-anyhow : (x : Kind) (s t u : List ℕ) → BlockRun (LineWrites x) most_kept [] s t → BlockRun (LineWrites x) most_kept [] s u → t ≡ u
write-anyhow x s t u p q = cut-anyhow (LineWrites x) most_kept (writes-tells x) s t u p q

-- ---- behind the beginning of a line

-- what follows leaves the same of two lines with the same first bytes
pub under-kept : (m : ℕ) (u v s : List ℕ) → take m u ≡ take m v → take m (under u s) ≡ take m (under v s)
under-kept m u v [] e = rw (under_none u, under_none v) e
under-kept m u v (b ∷ s) e =
    elim (test (eqb b newline)) [
      | passes f ↦ rw (under-newline u b s f, under-newline v b s f)
      | fails f ↦ rw (under-other u b s f, under-other v b s f) (under-kept m (u ++ (b ∷ [])) (v ++ (b ∷ [])) s (kept_on m u v b e))
    ]

-- as many lines end behind either
pub ended-many : (u v s : List ℕ) → length (ended u s) ≡ length (ended v s)
ended-many u v [] = rw (ended-none u, ended-none v)
ended-many u v (b ∷ s) =
    elim (test (eqb b newline)) [
      | passes f ↦ rw (ended-newline u b s f, ended-newline v b s f)
      | fails f ↦ rw (ended-other u b s f, ended-other v b s f) (ended-many (u ++ (b ∷ [])) (v ++ (b ∷ [])) s)
    ]

module _ (x : Kind) where
  -- and the lines that end write the same
  pub ended-kept : (u v s t : List ℕ) → take most_kept u ≡ take most_kept v → Texts (LineWrites x) (ended u s) t → Texts (LineWrites x) (ended v s) t
  ended-kept u v [] t e p = rw (ended-none v) (rw (ended-none u) at p)
  ended-kept u v (b ∷ s) t e p =
      elim (test (eqb b newline)) [
        | passes f ↦ rw (ended-newline v b s f) (first t (rw (ended-newline u b s f) at p))
        | fails f ↦ rw (ended-other v b s f) (ended-kept (u ++ (b ∷ [])) (v ++ (b ∷ [])) s t (kept_on most_kept u v b e) (rw (ended-other u b s f) at p))
      ]
    where
      first : (y : List ℕ) → Texts (LineWrites x) (u ∷ ended [] s) y → Texts (LineWrites x) (v ∷ ended [] s) y
      first y (more {t = z} q r) = more (tells-same (LineWrites x) most_kept (writes-tells x) u v z e q) r

  from-none : (u : List ℕ) → lines_from u [] ≡ last_of u
  unfolding lines_from
  from-none u = rw (ended-none u, under_none u)

  -- a last line writes the same
  last-kept : (u v t : List ℕ) → take most_kept u ≡ take most_kept v → Texts (LineWrites x) (last_of u) t → Texts (LineWrites x) (last_of v) t
  last-kept u v t e p = rw (from-none v) at (lines-kept (LineWrites x) most_kept (writes-tells x) u v [] t e (rw (from-none u) p))

-- ---- block after block

pub record Gone (x : Kind) (c u : List ℕ) (n : ℕ) : Type 0 where
  pub text : List ℕ
  pub writes : Texts (LineWrites x) (ended [] c) text
  pub line : u ≡ take most_kept (under [] c)
  pub count : n ≡ length (ended [] c)

pub gone-none : (x : Kind) → Gone x [] [] 0
gone-none x = record { text = []; writes = rw (ended-none []) done; line = rw (under_none []) refl; count = rw (ended-none []) refl }

-- no more lines end than there are bytes
ended-few : (u s : List ℕ) → length (ended u s) ≤ length s
ended-few u [] = rw (ended-none u) (omega arith)
ended-few u (b ∷ s) =
    elim (test (eqb b newline)) [
      | passes f ↦ rw (ended-newline u b s f) (omega (arith, ended-few [] s))
      | fails f ↦ rw (ended-other u b s f) (omega (arith, ended-few (u ++ (b ∷ [])) s))
    ]

pub gone-few : (x : Kind) (c u : List ℕ) (n : ℕ) → Gone x c u n → n ≤ length c
gone-few x c u n g = omega (arith, g.count, ended-few [] c)

module _ (x : Kind) (c u : List ℕ) (n : ℕ) (g : Gone x c u n) where
  -- what is kept of the line under way is its beginning
  begun : take most_kept u ≡ take most_kept (under [] c)
  begun = ap (take most_kept) g.line ∙ take-take most_kept most_kept (under [] c) (omega arith)

  -- a block more
  pub gone-on : (s t v : List ℕ) (m : ℕ) → Texts (LineWrites x) (ended u s) t → v ≡ take most_kept (under u s) → m ≡ n + length (ended u s) → Gone x (c ++ s) v m
  gone-on s t v m p e f =
      record {
        text = g.text ++ t;
        writes = rw (ended-append [] c s) (texts-append (LineWrites x) (ended [] c) (ended (under [] c) s) g.text t g.writes (ended-kept x u (under [] c) s t begun p));
        line = e ∙ under-kept most_kept u (under [] c) s begun ∙ sym (ap (take most_kept) (under-append [] c s));
        count = rw (ended-append [] c s) (f ∙ omega (arith, g.count, ended-many u (under [] c) s, length-append (ended [] c) (ended (under [] c) s)));
      }

  -- the end of the input
  pub gone-last : (t : List ℕ) → Texts (LineWrites x) (last_of u) t → LinesWrite x c (g.text ++ t)
  unfolding lines lines_from
  gone-last t p = texts-append (LineWrites x) (ended [] c) (last_of (under [] c)) g.text t g.writes (last-kept x u (under [] c) t begun p)

  -- the line under way is refused: as it ends
  pub gone-refused : (r : Refusal) → LineRefused u r → FirstRefused x (c ++ (newline ∷ [])) (n + 1) r
  unfolding lines lines_from
  gone-refused r h =
      let e = eq-eqb newline newline refl in
      record {
        before = ended [] c;
        line = under [] c;
        behind = [];
        cut = rw (ended-on [] c newline e, under-on [] c newline e, last_none [] refl) (append-nil (ended [] c ++ (under [] c ∷ [])));
        text = g.text;
        good = g.writes;
        refused = refused-first (under [] c) r (rw g.line at h);
        number = omega (arith, g.count);
      }

  -- or as the last
  pub last-refused : (r : Refusal) → 0 < length u → LineRefused u r → FirstRefused x c (n + 1) r
  unfolding lines lines_from
  last-refused r l h =
      let some : 0 < length (under [] c) = omega (arith, ap length g.line, l, length-take most_kept (under [] c)) in
      record {
        before = ended [] c;
        line = under [] c;
        behind = [];
        cut = rw (last_some (under [] c) some);
        text = g.text;
        good = g.writes;
        refused = refused-first (under [] c) r (rw g.line at h);
        number = omega (arith, g.count);
      }
