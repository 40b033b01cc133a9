-- What checking one record of an old catalogue promises, by cases on the answer; it serves the code alone.
--     OldSays t s v       checking the record that t begins with, at s of an old catalogue
use Rattle.std.specs.Prelude.{ℕ, List, Result, Ok, Err}
use Rattle.refusal.specs.declared.Refusal.{Refusal}
use Rattle.refusal.specs.Order.{Given}
use Rattle.record_spec.specs.Order.{After9}
use Rattle.converter_spec.specs.Sides.{Side, SideMarked}
use Rattle.converter_spec.specs.Reads.{old_order}

abbrev pub OldSays : List ℕ → ℕ → Result Unit Refusal → Type 0
OldSays t s (Ok _) = (x : Side) × SideMarked t x × After9 t
OldSays t s (Err r) = Given (old_order t s) r
