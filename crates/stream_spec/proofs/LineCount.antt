-- How many lines an input has (02, request f).
--     ended-count    as many lines end in it as it has newlines, whatever line was under way
--     open-last      a line is under way behind it exactly where bytes follow its last newline
--     lines-count    so there are as many lines as newlines, and one more where bytes follow the last
use Rattle.words.proofs.Plain.{ℕ, ◌+◌, arith, ◌≡◌, refl, true, false, List, [], ◌∷◌, ◌++◌, eqb, length, length-append}
use Rattle.words.specs.Readings.{bit}
use Rattle.words.proofs.Split.{passes, fails, test}
use Rattle.text_spec.specs.Ascii.{newline}
use Rattle.stream_spec.specs.Lines.{ended, under, last_of, lines_from, lines}
use Rattle.stream_spec.specs.LineCount.{newlines, ends_open}
use Rattle.stream_spec.proofs.Bytes.{ended-newline, ended-other, under-newline, under-other, ended-none, under_none}

-- as many lines end as there are newlines
pub ended-count : (u s : List ℕ) → length (ended u s) ≡ newlines s
unfolding newlines
ended-count u [] = rw (ended-none u)
ended-count u (b ∷ s) =
    elim (test (eqb b newline)) [
      | passes e ↦ rw (ended-newline u b s e, e) (omega (arith, ended-count [] s))
      | fails e ↦ rw (ended-other u b s e, e) (omega (arith, ended-count (u ++ (b ∷ [])) s))
    ]

-- a line under way with a byte is a line
last_some : (u : List ℕ) (b : ℕ) → length (last_of (u ++ (b ∷ []))) ≡ 1
unfolding last_of
last_some [] b = refl
last_some (a ∷ u) b = refl

last_none : length (last_of []) ≡ 0
unfolding last_of
last_none = refl

-- a line is under way exactly where bytes follow the last newline
pub open-last : (u : List ℕ) (b : ℕ) (s : List ℕ) → length (last_of (under u (b ∷ s))) ≡ bit (ends_open (b ∷ s))
unfolding ends_open
open-last u b [] =
    elim (test (eqb b newline)) [
      | passes e ↦ rw (under-newline u b [] e, under_none [], e) last_none
      | fails e ↦ rw (under-other u b [] e, under_none (u ++ (b ∷ [])), e) (last_some u b)
    ]
open-last u b (c ∷ s) =
    elim (test (eqb b newline)) [
      | passes e ↦ rw (under-newline u b (c ∷ s) e) (open-last [] c s)
      | fails e ↦ rw (under-other u b (c ∷ s) e) (open-last (u ++ (b ∷ [])) c s)
    ]

-- an input of no bytes has no line
none-counted : length (last_of []) ≡ newlines [] + bit (ends_open [])
unfolding last_of newlines ends_open
none-counted = refl

-- how many lines there are
pub lines-count : (s : List ℕ) → length (lines s) ≡ newlines s + bit (ends_open s)
unfolding lines lines_from
lines-count [] = rw (ended-none [], under_none []) none-counted
lines-count (b ∷ s) = rw length-append (omega (arith, ended-count [] (b ∷ s), open-last [] b s))
