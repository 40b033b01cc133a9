-- The mark of a record of an old catalogue.
--     unknown    a second byte of neither mark is of no side
use Rattle.words.proofs.Plain.{ℕ, ◌≡◌, List, get_or}
use Rattle.converter_spec.specs.Sides.{Side, SideMarked}
use Rattle.converter_spec.specs.Sides.Side.{front, back}

-- a second byte of neither mark is of no side
pub unknown : (t : List ℕ) → (get_or t 1 0 ≡ 0x46 → ⊥) → (get_or t 1 0 ≡ 0x42 → ⊥) → (x : Side) → SideMarked t x → ⊥
unknown t f b front m = f m.1
unknown t f b back m = b m.1
