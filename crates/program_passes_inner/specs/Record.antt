-- What the system's record of an open file says, a line `pos:` and a line `flags:` with a number to the base 8.
--     record_start       what it begins with where the file stands at its beginning, as far as the number of the flags
--     mode_said m t      the last digit of the number that t goes on with, where m is the digit before t; 0 where no line ends
--     readable_said t    that digit does not say that the file is open for writing alone
use Rattle.std.specs.Prelude.{ℕ, ◌%◌, Bool, true, false, not, List, [], ◌∷◌, eqb, drop}

-- the characters of `pos:`, a tab, `0` and a new line, and of `flags:` and a tab
abbrev pub record_start : List ℕ
record_start = 112 ∷ 111 ∷ 115 ∷ 58 ∷ 9 ∷ 48 ∷ 10 ∷ 102 ∷ 108 ∷ 97 ∷ 103 ∷ 115 ∷ 58 ∷ 9 ∷ []

unfoldable pub mode_said : ℕ → List ℕ → ℕ
mode_said m [] = 0
mode_said m (c ∷ t) = elim (eqb c 10) [ true ↦ m | false ↦ mode_said c t ]

abbrev pub readable_said : List ℕ → Bool
readable_said t = not (eqb (mode_said 0 (drop 14 t) % 4) 1)
