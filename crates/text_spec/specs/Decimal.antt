-- A number's decimal text (01, 'The listing program'): 0 is 0, and no other number begins with it.
--     digit d       the character of a digit below 10
--     decimal x     the text of x: one digit below 10; from 10 on, the text of x / 10 and then the last digit
-- Those two clauses are laws (proofs/Digits: `decimal-short`, `decimal-more`); the definition counts digits down, since x has at most x + 1.
use Rattle.std.specs.Prelude.{ℕ, zero, suc, ◌+◌, ◌/◌, ◌%◌, true, false, List, [], ◌∷◌, ◌++◌, ltb}
use Rattle.text_spec.specs.Ascii.{nought}

abbrev pub digit : ℕ → ℕ
digit d = nought + d

-- the text of x, which has at most m digits
unfoldable pub decimal_in : ℕ → ℕ → List ℕ
decimal_in zero x = []
decimal_in (suc m) x = elim (ltb x 10) [ true ↦ digit x ∷ [] | false ↦ decimal_in m (x / 10) ++ (digit (x % 10) ∷ []) ]

unfoldable pub decimal : ℕ → List ℕ
decimal x = decimal_in (suc x) x
