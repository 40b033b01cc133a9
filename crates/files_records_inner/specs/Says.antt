-- What the parts promise.
--     share                      a record shows at most so many bytes for each of its own
--     RecordStepSays j s t o at v d    the record that t begins with, which stands at s, was read: what it shows stands in the output from `at` on
use Rattle.std.specs.Prelude.{ℕ, ◌≤◌, ◌≡◌, List, length, take, Result, Ok, Err}
use Rattle.refusal.specs.declared.Refusal.{Refusal}
use Rattle.refusal.specs.Order.{Given}
use Rattle.record_spec.specs.Order.{record_order}
use Rattle.stream_spec.specs.Blocks.{Puts}
use Rattle.files_spec.specs.declared.Job.{Job}
use Rattle.files_spec.specs.Blocks.{One}
use Rattle.files_text_inner.specs.Room.{record_room}

abbrev pub share : ℕ
share = 28

abbrev pub RecordStepSays : Job → ℕ → List ℕ → List ℕ → ℕ → Result (ℕ × ℕ) Refusal → List ℕ → Type 0
RecordStepSays j s t o at (Ok (m, e)) d = (5 ≤ m) × (m ≤ length t) × Puts (One j s (take m t)) record_room o at e d
RecordStepSays j s t o at (Err r) d = Given (record_order t s) r × (d ≡ o)
