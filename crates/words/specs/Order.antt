-- The order of readings: sector by sector, and where one reading is the beginning of another, the shorter comes first
-- (01, 'What the catalogue covers').
--     before v w    v stands before w
--     up_to v w      v stands before w or is w
--     same v w      v is w
-- That the order is total, transitive and antisymmetric: proofs/Lex.
use Rattle.std.specs.Prelude.{ℕ, Bool, true, false, not, ◌&&◌, ◌||◌, List, [], ◌∷◌, ltb, eqb}

-- v stands before w: it is smaller at the first place where they differ, or it ends where w goes on
unfoldable pub before : List ℕ → List ℕ → Bool
before [] [] = false
before [] (b ∷ w) = true
before (a ∷ v) [] = false
before (a ∷ v) (b ∷ w) = ltb a b || (eqb a b && before v w)

-- v is not greater than w
unfoldable pub up_to : List ℕ → List ℕ → Bool
up_to v w = not (before w v)

-- v and w are one reading
unfoldable pub same : List ℕ → List ℕ → Bool
same [] [] = true
same [] (b ∷ w) = false
same (a ∷ v) [] = false
same (a ∷ v) (b ∷ w) = eqb a b && same v w
