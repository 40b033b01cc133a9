-- Tables of cases that are worked out by hand. A crate that has one says what a row of it claims.
--     Hold P rows    every row of the table holds, where P says what a row claims
use Rattle.std.specs.Prelude.{List, [], ◌∷◌}

unfoldable pub Hold : {C : Type 0} → (C → Type 0) → List C → Type 0
Hold P [] = Unit {0}
Hold P (c ∷ cs) = P c × Hold P cs
