-- A head written to the front of a part of a buffer; it serves the code alone, and Layout of `record_spec` is what it is held to (proofs/Heads).
--     headed t c n k    t with 52 (hexadecimal), c, n and k as its first four bytes
use Rattle.std.specs.Prelude.{ℕ, List, ◌∷◌, drop}

abbrev pub headed : List ℕ → ℕ → ℕ → ℕ → List ℕ
headed t c n k = 0x52 ∷ (c ∷ (n ∷ (k ∷ drop 4 t)))
