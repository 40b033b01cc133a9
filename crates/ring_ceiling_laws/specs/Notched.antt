-- The rings from which a step goes furthest (02, request h; demand 3): full but for two notches, the first sector and one other.
--     notch k p i       the shade at place i: k - 2 at the places 0 and p, k - 1 at every other
--     notched k n p     n sectors of it; for k = 2 they are 0 1 .. 1 0 1 .. 1
--     lyndon_start, necklace_start    the one from which the next Lyndon word, or the next necklace, is furthest
-- That it is: proofs/Reached.
use Rattle.std.specs.Prelude.{ℕ, ◌-◌, ◌/◌, true, false, ◌||◌, List, eqb}
use Rattle.words.specs.Search.{tab}

-- the shade at place i, with notches at 0 and p
unfoldable pub notch : ℕ → ℕ → ℕ → ℕ
notch k p i = elim (eqb i 0 || eqb i p) [ true ↦ k - 2 | false ↦ k - 1 ]

-- n sectors; where p is n or more, only the first is notched
unfoldable pub notched : ℕ → ℕ → ℕ → List ℕ
notched k n p = tab n (notch k p)

-- the second notch just before the middle: 01011 for n = 5, 010111 for n = 6
abbrev pub lyndon_start : ℕ → ℕ → List ℕ
lyndon_start k n = notched k n ((n - 1) / 2)

-- the second notch at the middle: 01011 for n = 5, 011011 for n = 6
abbrev pub necklace_start : ℕ → ℕ → List ℕ
necklace_start k n = notched k n (n / 2)
