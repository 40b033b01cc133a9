-- What is said of a refused line has room.
--     line-short
use Rattle.words.proofs.Plain.{ℕ, zero, suc, ◌^◌, ◌<◌, ◌≤◌, arith, List, [], ◌∷◌, length, get_or}
use Rattle.text_spec.specs.Ascii.{ascii}
use Rattle.text_fill_spec.specs.Filled.{filled_text, slots, longest}
use Rattle.text_fill_spec.proofs.Laws.{filled-short}
use Rattle.program_refusal_inner.specs.Room.{refused_line_room}

few : (a b c : ℕ) → a < 10 ^ 20 → b < 10 ^ 20 → c < 10 ^ 20 → (i : ℕ) → get_or (a ∷ b ∷ c ∷ []) i 0 < 10 ^ 20
few a b c f g h zero = f
few a b c f g h (suc zero) = g
few a b c f g h (suc (suc zero)) = h
few a b c f g h (suc (suc (suc i))) = omega arith

form-short : longest (ascii "refused % at % in line %\n") 0 ≤ refused_line_room
unfolding longest slots
form-short = omega arith

pub line-short : (a b c : ℕ) → a < 10 ^ 20 → b < 10 ^ 20 → c < 10 ^ 20 → length (filled_text (ascii "refused % at % in line %\n") (a ∷ b ∷ c ∷ []) 0 []) ≤ refused_line_room
line-short a b c f g h = omega (arith, filled-short (ascii "refused % at % in line %\n") (a ∷ b ∷ c ∷ []) 0 [] (few a b c f g h), form-short)
