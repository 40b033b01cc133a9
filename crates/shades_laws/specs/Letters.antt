-- The letters of given counts in increasing order: what a pool starts from.
--     letters_from d cs     as many letters d as the first count says, then as many d + 1, and so on
--     letters cs           the same from 0
use Rattle.std.specs.Prelude.{ℕ, suc, List, [], ◌∷◌, ◌++◌, replicate}

-- as many letters d as the first count says, then as many d + 1, and so on
unfoldable pub letters_from : ℕ → List ℕ → List ℕ
letters_from d [] = []
letters_from d (c ∷ cs) = replicate c d ++ letters_from (suc d) cs

-- the letters of these counts in increasing order
abbrev pub letters : List ℕ → List ℕ
letters cs = letters_from 0 cs
