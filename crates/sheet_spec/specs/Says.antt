-- What placing a target of a sheet promises: refusals 1, 2, 3 of its reading, 10 where it has another number of sectors than the sheet, 12 where it is not among the
-- first million, and 4 where the targets do not fit on a page, or the buffer has less room than the longest text may take; nothing is written then.
--     target_room                     no text of a target is longer
--     most_targets                    a sheet has no more
--     sheet_order o w i m             the order, for target i of the sheet o, a reading w and a buffer of m bytes; `sheet-numbers`: by its numbers
--     TargetSays o w i last b r b'   the answer r, how long the text is or a refusal, where the buffer held b before and holds b' after
-- That no two answers satisfy it, the buffer included: proofs/Unique.
use Rattle.std.specs.Prelude.{ℕ, ◌<◌, ◌≤◌, ◌≡◌, refl, Bool, List, [], ◌∷◌, length, Result, Ok, Err}
use Rattle.refusal.specs.declared.Refusal.{Refusal}
use Rattle.refusal.specs.declared.Refusal.TheVariants as F
use Rattle.refusal.specs.Order.{Checks, fact, ◌▸◌, Passed, Given, numbered}
use Rattle.refusal.specs.Calls.{one_reading}
use Rattle.text_spec.specs.Put.{Placed}
use Rattle.sheet_spec.specs.declared.Sheet.{Sheet}
use Rattle.sheet_spec.specs.Layout.{FitsPage}
use Rattle.sheet_spec.specs.Text.{target_text}

abbrev pub target_room : ℕ
target_room = 18432

abbrev pub most_targets : ℕ
most_targets = 1000000

abbrev pub sheet_order : Sheet → List ℕ → ℕ → ℕ → Checks
sheet_order o w i m =
    one_reading w o.k ▸ fact (length w ≡ o.n) F.Pair ▸ fact (i < most_targets) F.TooMany ▸ fact (FitsPage o.size o.columns) F.Room ▸ fact (target_room ≤ m) F.Room

pub sheet-numbers : (o : Sheet) (w : List ℕ) (i m : ℕ) → numbered (sheet_order o w i m) ≡ (1 ∷ 10 ∷ 2 ∷ 3 ∷ 4 ∷ 6 ∷ 5 ∷ 10 ∷ 12 ∷ 4 ∷ 4 ∷ [])
sheet-numbers o w i m = refl

abbrev pub TargetSays : Sheet → List ℕ → ℕ → Bool → List ℕ → Result ℕ Refusal → List ℕ → Type 0
TargetSays o w i last b (Ok m) b' = Passed (sheet_order o w i (length b)) × Placed b 0 (target_text o i last w) m b' × (m ≤ target_room)
TargetSays o w i last b (Err r) b' = Given (sheet_order o w i (length b)) r × (b' ≡ b)
