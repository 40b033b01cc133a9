-- Characters by name, and quoted text as the list of its characters' codes, so that specs/Text says what is printed as it is printed.
use Rattle.std.specs.Prelude.{ℕ, List, [], ◌∷◌}
use Prim.Native.Char.{code}
use Prim.Native.String.{String, [] as none, ◌∷◌ as ◌then◌}

abbrev pub ascii : String → List ℕ
ascii none = []
ascii (c then s) = code c ∷ ascii s

-- the digit 0; the other digits follow it
abbrev pub nought : ℕ
nought = 48

abbrev pub space : ℕ
space = 32

abbrev pub newline : ℕ
newline = 10
