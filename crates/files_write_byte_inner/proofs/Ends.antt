-- How many lines a byte ends.
--     one_ended, none-ended   a newline ends a line, and no other byte does
use Rattle.words.proofs.Plain.{ℕ, ◌≡◌, [], ◌∷◌, length, eq-eqb, ne_eqb}
use Rattle.text_spec.specs.Ascii.{newline}
use Rattle.stream_spec.specs.Lines.{ended}
use Rattle.stream_spec.proofs.Bytes.{ended-newline, ended-other, ended-none}

pub one_ended : (c : ℕ) → c ≡ newline → length (ended [] (c ∷ [])) ≡ 1
one_ended c e = rw (ended-newline [] c [] (eq-eqb c newline e), ended-none [])

pub none-ended : (c : ℕ) → (c ≡ newline → ⊥) → length (ended [] (c ∷ [])) ≡ 0
none-ended c e = rw (ended-other [] c [] (ne_eqb c newline e), ended-none (c ∷ []))
