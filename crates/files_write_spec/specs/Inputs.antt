-- A whole input of lines, a ring each.
--     LinesWrite x s text    each line of the input s writes its record, and text is the records, one behind another
--     FirstRefused x s n r   the line n, counted from 1, is the first that writes none, and is refused with r
--     HoldsHomes x c p ls    from the place p on the catalogue c holds a record for each of these lines, in their order, and then ends: the reader answers the home
--                            reading of each, its shades and the kind
-- That an input has one of the first two, and one alone: proofs/Unique. However it is cut: proofs/Cut. What is written holds the home readings: proofs/Rounds.
use Rattle.std.specs.Prelude.{ℕ, suc, ◌≡◌, List, [], ◌∷◌, ◌++◌, length, drop, Ok, None}
use Rattle.rings.specs.Home.{home}
use Rattle.refusal.specs.declared.Refusal.{Refusal}
use Rattle.record_spec.specs.declared.Kind.{Kind}
use Rattle.record_spec.specs.Says.{entry, ReadSays}
use Rattle.stream_spec.specs.Lines.{lines}
use Rattle.stream_spec.specs.Texts.{Texts, Prints}
use Rattle.files_write_spec.specs.RingLines.{RingLine, LineWrites, LineRefused}

abbrev pub LinesWrite : Kind → List ℕ → List ℕ → Type 0
LinesWrite x s text = Prints (LineWrites x) s text

pub record FirstRefused (x : Kind) (s : List ℕ) (n : ℕ) (r : Refusal) : Type 0 where
  pub before : List (List ℕ)
  pub line : List ℕ
  pub behind : List (List ℕ)
  pub cut : lines s ≡ before ++ (line ∷ behind)
  pub text : List ℕ
  pub good : Texts (LineWrites x) before text
  pub refused : LineRefused line r
  pub number : n ≡ suc (length before)

-- o is what the reader's output held before
pub data HoldsHomes (x : Kind) (c : List ℕ) : ℕ → List (List ℕ) → Type 0 where
  ends : {p : ℕ} → ((o : List ℕ) → length o ≡ 64 → ReadSays c p o (Ok None) o) → HoldsHomes x c p []
  next : {p e : ℕ} {line : List ℕ} {ls : List (List ℕ)} (q : ℕ × List ℕ) → RingLine line q →
      ((o : List ℕ) → length o ≡ 64 → ReadSays c p o (entry (length q.1) q.0 x e) (home q.1 ++ drop (length q.1) o)) → HoldsHomes x c e ls → HoldsHomes x c p (line ∷ ls)
