-- The text of a set (02, 'g'): one ring a line, in the order taken, its sectors a hexadecimal digit each; and a last line, `taken 3 not full` or `taken 32 full`.
--     ring_text w          00110111
--     ring_texts ts        one ring a line
--     taken_text t full    taken 3 not full
--     set_text ts full     the whole
use Rattle.std.specs.Prelude.{ℕ, Bool, true, false, List, [], ◌∷◌, ◌++◌, map, length}
use Rattle.text_spec.specs.Ascii.{ascii}
use Rattle.text_spec.specs.Decimal.{decimal}
use Rattle.text_spec.specs.Text.{hex_of}

unfoldable pub ring_text : List ℕ → List ℕ
ring_text w = map hex_of w ++ ascii "\n"

unfoldable pub ring_texts : List (List ℕ) → List ℕ
ring_texts [] = []
ring_texts (w ∷ ts) = ring_text w ++ ring_texts ts

unfoldable pub full_text : Bool → List ℕ
full_text true = ascii " full\n"
full_text false = ascii " not full\n"

unfoldable pub taken_text : ℕ → Bool → List ℕ
taken_text t full = ascii "taken " ++ decimal t ++ full_text full

unfoldable pub set_text : List (List ℕ) → Bool → List ℕ
set_text ts full = ring_texts ts ++ taken_text (length ts) full
