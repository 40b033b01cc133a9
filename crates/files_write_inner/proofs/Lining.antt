-- From byte to byte of a block.
--     count_none, count-on, count-few, count-end    how many lines have ended
--     block_refused                            the first refused line of a block
use Rattle.words.proofs.Plain.{ℕ, ◌+◌, ◌<◌, ◌≤◌, add-one, arith, ◌≡◌, true, false, List, [], ◌∷◌, ◌++◌, eqb, length, get_or, take, length-append, take-suc}
use Rattle.words.proofs.Plain.{take_all}
use Rattle.words.proofs.Split.{passes, fails, test}
use Rattle.text_spec.specs.Ascii.{newline}
use Rattle.refusal.specs.declared.Refusal.{Refusal}
use Rattle.record_spec.specs.declared.Kind.{Kind}
use Rattle.stream_spec.specs.Lines.{ended, under}
use Rattle.stream_spec.proofs.Bytes.{ended-newline, ended-other, ended-none, ended-append}
use Rattle.stream_spec.proofs.Taking.{Taking}
use Rattle.files_text_inner.specs.Room.{record_room}
use Rattle.files_write_spec.specs.RingLines.{most_kept, LineWrites, LineRefused}
use Rattle.files_write_spec.proofs.Cut.{ended-many}
use Rattle.files_write_inner.specs.Says.{RefusedIn}

-- ---- how many lines

pub count_none : (u s : List ℕ) (n : ℕ) → n ≡ n + length (ended u (take 0 s))
count_none u s n = rw (ended-none u) (omega arith)

-- all bytes of a block
pub count-end : (u s : List ℕ) (i : ℕ) → length s ≤ i → (n k : ℕ) → k ≡ n + length (ended u (take i s)) → k ≡ n + length (ended u s)
count-end u s i h n k e = rw (take_all i s h) at e

pub count-on : (u s : List ℕ) (i : ℕ) → i < length s → (n m k : ℕ) → m ≡ n + length (ended u (take i s)) → k ≡ m + length (ended [] (get_or s i 0 ∷ [])) → k ≡ n + length (ended u (take (i + 1) s))
count-on u s i l n m k e f =
    let g : take (i + 1) s ≡ take i s ++ (get_or s i 0 ∷ []) = rw (add-one i) (take-suc s i 0 l) in
    rw (g, ended-append u (take i s) (get_or s i 0 ∷ []))
    (omega (arith, e, f, length-append (ended u (take i s)) (ended (under u (take i s)) (get_or s i 0 ∷ [])), ended-many [] (under u (take i s)) (get_or s i 0 ∷ [])))

pub count-few : (c m k i n : ℕ) → k ≡ m + length (ended [] (c ∷ [])) → m ≤ n + i → k ≤ n + (i + 1)
count-few c m k i n e l =
    elim (test (eqb c newline)) [
      | passes f ↦ omega (arith, e, l, few f)
      | fails f ↦ omega (arith, e, l, none f)
    ]
  where
    few : eqb c newline ≡ true → length (ended [] (c ∷ [])) ≡ 1
    few f = rw (ended-newline [] c [] f, ended-none [])

    none : eqb c newline ≡ false → length (ended [] (c ∷ [])) ≡ 0
    none f = rw (ended-other [] c [] f, ended-none (c ∷ []))

-- ---- the first refused line

module _ (x : Kind) (u s b₀ : List ℕ) (i : ℕ) (v : List ℕ) (at : ℕ) (b : List ℕ) (t : Taking (LineWrites x) most_kept record_room u s b₀ i v at b) where
  pub block_refused : i < length s → (n m : ℕ) → m ≡ n + length (ended u (take i s)) → (r : Refusal) (k : ℕ) → (get_or s i 0 ≡ newline) × LineRefused v r × (k ≡ m + 1) →
      (j : ℕ) × (j < length s) × (get_or s j 0 ≡ newline) × RefusedIn x u (take j s) n r k
  block_refused l n m e r k h =
      (i, l, h.0, record { text = t.text; writes = t.says; refused = rw t.line at h.1; number = omega (arith, e, h.2) })
