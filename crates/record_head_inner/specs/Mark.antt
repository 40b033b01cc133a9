-- What the test of a record's mark promises, by cases on the answer; it serves the code alone. t is the part of the catalogue that begins at s.
--     MarkSays t s r    the answer r: the kind that the mark tells, or what the record is refused for
use Rattle.std.specs.Prelude.{ℕ, List, Result, Ok, Err}
use Rattle.refusal.specs.declared.Refusal.{Refusal}
use Rattle.refusal.specs.Order.{Given}
use Rattle.record_spec.specs.declared.Kind.{Kind}
use Rattle.record_spec.specs.{Layout.Marked, Order.record_order}

abbrev pub MarkSays : List ℕ → ℕ → Result Kind Refusal → Type 0
MarkSays t s (Ok x) = Marked t x
MarkSays t s (Err r) = Given (record_order t s) r
