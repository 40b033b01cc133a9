-- A target's text lies within the buffer, which keeps its length.
use Rattle.words.proofs.Plain.{ℕ, ◌≤◌, arith, ◌≡◌, Bool, List, length}
use Rattle.text_spec.proofs.Put.{placed-length}
use Rattle.std.specs.Prelude.{Ok}
use Rattle.sheet_spec.specs.{declared.Sheet.Sheet, Says.target_room, Says.TargetSays}

pub step-inside : (o : Sheet) (w : List ℕ) (i : ℕ) (last : Bool) (b : List ℕ) (m : ℕ) (b' : List ℕ) → target_room ≤ length b →
    TargetSays o w i last b (Ok m) b' → (m ≤ length b) × (length b' ≡ length b)
step-inside o w i last b m b' h s = (omega (arith, s.2), placed-length b 0 _ m b' s.1)
