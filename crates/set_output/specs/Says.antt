-- What the parts of the call promise.
--     RefusedSetSays r b x b'               the line of the refusal r at the beginning of the buffer
--     SetNumbersSay rule n k d want b x b'       the output for the numbers at the beginning of the buffer
use Rattle.std.specs.Prelude.{ℕ, ◌≤◌, List, length}
use Rattle.refusal.specs.declared.Refusal.{Refusal}
use Rattle.refusal.specs.Numbers.{number_of}
use Rattle.text_spec.specs.Text.{refused_line}
use Rattle.text_spec.specs.Put.{Placed}
use Rattle.guard_spec.specs.declared.Rule.{Rule}
use Rattle.set_text_spec.specs.Prints.{set_room, NumbersPrintBy}

pub record RefusedSetSays (r : Refusal) (b : List ℕ) (x : ℕ) (b' : List ℕ) : Type 0 where
  pub fits : length (refused_line (number_of r)) ≤ set_room
  pub placed : Placed b 0 (refused_line (number_of r)) x b'

pub record SetNumbersSay (rule : Rule) (n k d want : ℕ) (b : List ℕ) (x : ℕ) (b' : List ℕ) : Type 0 where
  pub text : List ℕ
  pub says : NumbersPrintBy rule n k d want text
  pub fits : length text ≤ set_room
  pub placed : Placed b 0 text x b'
