-- What is printed for a line (02, 'g'), by either rule.
--     SetPrintsBy rule s t       t is the output for the line s: `refused 11` for a malformed one, `refused` and the number for numbers that are refused, or the set of the rule
--     set_room                    no output is longer
--     PrintedBy rule s b r b'    the output for s stands at the beginning of the buffer b', which held b before, and has r bytes; where b has no room for it nothing is written
--     NumbersPrint, SetPrints, Printed    the same by the rule of 02, 'g'
-- That a line has one output, and a buffer one content: proofs/Unique.
use Rattle.std.specs.Prelude.{ℕ, ◌<◌, ◌≤◌, ◌≡◌, List, length, eqb}
use Rattle.refusal.specs.declared.Refusal.{Refusal}
use Rattle.refusal.specs.declared.Refusal.TheVariants.{Line}
use Rattle.refusal.specs.Numbers.{number_of}
use Rattle.text_spec.specs.Text.{refused_line}
use Rattle.text_spec.specs.Put.{Placed}
use Rattle.set_line_spec.specs.Line.{SpellsSet}
use Rattle.guard_spec.specs.declared.Rule.{Rule}
use Rattle.guard_spec.specs.declared.Rule.TheVariants.{Plain}
use Rattle.guard_spec.specs.Choice.{chosen_by}
use Rattle.refusal.specs.Order.{Given}
use Rattle.set_pick_spec.specs.Order.{set_order, Askable}
use Rattle.set_text_spec.specs.Text.{set_text}

-- the output for numbers
pub data NumbersPrintBy (rule : Rule) (n k d want : ℕ) (t : List ℕ) : Type 0 where
  refused : (r : Refusal) → Given (set_order n k d want) r → t ≡ refused_line (number_of r) → NumbersPrintBy rule n k d want t
  chosen : Askable n k d want → t ≡ set_text (chosen_by rule n k d want) (eqb (length (chosen_by rule n k d want)) want) → NumbersPrintBy rule n k d want t

-- the output for a line
pub data SetPrintsBy (rule : Rule) (s t : List ℕ) : Type 0 where
  malformed : ((n k d want : ℕ) → SpellsSet s n k d want → ⊥) → t ≡ refused_line (number_of Line) → SetPrintsBy rule s t
  spelt : (n k d want : ℕ) → SpellsSet s n k d want → NumbersPrintBy rule n k d want t → SetPrintsBy rule s t

-- 32 lines of 24 sectors, and a last line of 18 characters
abbrev pub set_room : ℕ
set_room = 818

pub data PrintedBy (rule : Rule) (s b : List ℕ) (r : ℕ) (b' : List ℕ) : Type 0 where
  small : length b < set_room → r ≡ 0 → b' ≡ b → PrintedBy rule s b r b'
  whole : set_room ≤ length b → (t : List ℕ) → SetPrintsBy rule s t → length t ≤ set_room → Placed b 0 t r b' → PrintedBy rule s b r b'

-- ---- by the rule of 02, 'g'

abbrev pub NumbersPrint : ℕ → ℕ → ℕ → ℕ → List ℕ → Type 0
NumbersPrint = NumbersPrintBy Plain

abbrev pub SetPrints : List ℕ → List ℕ → Type 0
SetPrints = SetPrintsBy Plain

abbrev pub Printed : List ℕ → List ℕ → ℕ → List ℕ → Type 0
Printed = PrintedBy Plain
