-- What stands at a place of a ring's shades.
--     shade-at    the shade at place i of all shades is that of the value there
use Rattle.words.proofs.Plain.{ℕ, zero, suc, ◌<◌, arith, ◌≡◌, refl, List, [], ◌∷◌, map, length, get_or}
use lib.Ieee.{Float, nan}
use Rattle.density_spec.specs.{declared.Card.Card, Cuts.shade_of}

pub shade-at : (c : Card) (k : ℕ) (xs : List Float) (i : ℕ) → i < length xs → get_or (map (shade_of c k) xs) i 0 ≡ shade_of c k (get_or xs i nan)
shade-at c k [] i h = absurd (omega arith)
shade-at c k (x ∷ xs) zero h = refl
shade-at c k (x ∷ xs) (suc i) h = shade-at c k xs i (omega arith)
