-- What any program says of how its run ended has room.
--     said-placed
use Rattle.words.proofs.Plain.{ℕ, ◌≤◌, arith, List, length}
use Rattle.text_spec.specs.Put.{Placed}
use Rattle.program_ending_inner.specs.{declared.Ending.Ending, Text.ending_text, Text.SaySays}
use Rattle.program_ending_inner.specs.Text.SaySays.{small, said}
use Rattle.files_write_ending_inner.specs.Endings.{ended_room}

pub said-placed : (t : Ending) (b : List ℕ) (r : ℕ) (d : List ℕ) → ended_room ≤ length b → SaySays t b r d → Placed b 0 (ending_text t) r d × (r ≤ ended_room)
said-placed t b r d l (small h x y) = absurd (omega arith)
said-placed t b r d l (said h g) = (g.placed, omega (arith, g.fits, g.placed.next))
