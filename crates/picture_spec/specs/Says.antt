-- What drawing a target promises: refusals 1, 2, 3 of a reading, and 4 where the buffer has less room than the longest picture may take; nothing is written then.
--     picture_room                  no picture is longer
--     draw_order w k m              the order, for a reading w and a buffer of m bytes; `draw-numbers`: by its numbers
--     DrawSays tone w k b r b'     the answer r, how many bytes the picture has or a refusal, where the buffer held b before and holds b' after
-- That no two answers satisfy it, the buffer included: proofs/Unique.
use Rattle.std.specs.Prelude.{ℕ, ◌≤◌, ◌≡◌, refl, List, [], ◌∷◌, length, Result, Ok, Err}
use Rattle.refusal.specs.declared.Refusal.{Refusal}
use Rattle.refusal.specs.declared.Refusal.TheVariants as F
use Rattle.refusal.specs.Order.{Checks, fact, ◌▸◌, Passed, Given, numbered}
use Rattle.refusal.specs.Calls.{one_reading}
use Rattle.text_spec.specs.Put.{Placed}
use Rattle.picture_spec.specs.declared.Tone.{Tone}
use Rattle.picture_spec.specs.Text.{picture_text}

abbrev pub picture_room : ℕ
picture_room = 16768

abbrev pub draw_order : List ℕ → ℕ → ℕ → Checks
draw_order w k m = one_reading w k ▸ fact (picture_room ≤ m) F.Room

-- those of a reading, of which 10, 4, 6 and 5 ask nothing here, and then the room
pub draw-numbers : (w : List ℕ) (k m : ℕ) → numbered (draw_order w k m) ≡ (1 ∷ 10 ∷ 2 ∷ 3 ∷ 4 ∷ 6 ∷ 5 ∷ 4 ∷ [])
draw-numbers w k m = refl

abbrev pub DrawSays : Tone → List ℕ → ℕ → List ℕ → Result ℕ Refusal → List ℕ → Type 0
DrawSays tone w k b (Ok m) b' = Passed (draw_order w k (length b)) × Placed b 0 (picture_text tone k w) m b' × (m ≤ picture_room)
DrawSays tone w k b (Err r) b' = Given (draw_order w k (length b)) r × (b' ≡ b)
