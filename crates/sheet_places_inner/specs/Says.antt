-- What the function promises; `ring` gives the reading of each target.
--     SetPlaces p n t             t rings of n sectors in the places p
--     TargetAt o ring t i b m b'  target i of t, placed into the buffer
--     PlacedAt o p t i b m b'     the same of the rings in the places p
use Rattle.std.specs.Prelude.{ℕ, ◌+◌, ◌≤◌, ◌≡◌, List, eqb, length, Ok}
use Rattle.set_spec.specs.Places.{place_at}
use Rattle.sheet_spec.specs.declared.Sheet.{Sheet}
use Rattle.sheet_spec.specs.Says.{TargetSays}

pub record SetPlaces (p : List ℕ) (n t : ℕ) : Type 0 where
  pub size : length p ≡ 768
  pub short : n ≤ 24
  pub most : t ≤ 32

abbrev pub TargetAt : Sheet → (ℕ → List ℕ) → ℕ → ℕ → List ℕ → ℕ → List ℕ → Type 0
TargetAt o ring t i b m b' = TargetSays o (ring i) i (eqb (i + 1) t) b (Ok m) b'

abbrev pub PlacedAt : Sheet → List ℕ → ℕ → ℕ → List ℕ → ℕ → List ℕ → Type 0
PlacedAt o p t i b m b' = TargetAt o (place_at o.n p) t i b m b'
