-- What classifying promises (01, 'Rules the work stands on': Class; 'Refusal numbers': 1, 2, 3).
--     ClassifySays w k r    the answer r to the reading w of k shades: its class, or the refusal that is given
-- That no two answers satisfy it: proofs/Unique.
use Rattle.std.specs.Prelude.{ℕ, ◌≡◌, List, Result, Ok, Err}
use Rattle.refusal.specs.declared.Refusal.{Refusal}
use Rattle.rings.specs.declared.Class.{Class}
use Rattle.rings.specs.Class.{class_of}
use Rattle.refusal.specs.Order.{Given, Passed}
use Rattle.refusal.specs.Calls.{one_reading}

abbrev pub ClassifySays : List ℕ → ℕ → Result Class Refusal → Type 0
ClassifySays w k (Ok c) = Passed (one_reading w k) × (c ≡ class_of w)
ClassifySays w k (Err r) = Given (one_reading w k) r
