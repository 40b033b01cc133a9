-- Turns. Turning left by one moves the first sector to the end (000, section 1.1; 001, section 1); turning by i does that i times
-- (proofs/Turn, `Turn-suc`), which for i up to n is: the first i sectors go behind the others.
use Rattle.std.specs.Prelude.{ℕ, List, ◌++◌, take, drop}

-- w turned left by i, for i up to its length
unfoldable pub turn : ℕ → List ℕ → List ℕ
turn i w = drop i w ++ take i w
