-- The last digit of the flags, byte by byte.
--     mode-on       a byte that ends no line is the digit before the bytes behind it
--     mode-ended    the end of the line behind a digit
--     mode-none     no line ends
use Rattle.words.proofs.Plain.{ℕ, suc, ◌+◌, ◌<◌, ◌≤◌, ◌≡◌, refl, ap, true, false, List, length, get_or, drop, drop-cons, drop_of_length-le, add-one, ne_eqb}
use Rattle.program_passes_inner.specs.Record.{mode_said}

pub mode-on : (s : List ℕ) (m i : ℕ) → i < length s → (get_or s i 0 ≡ 10 → ⊥) → mode_said m (drop i s) ≡ mode_said (get_or s i 0) (drop (i + 1) s)
unfolding mode_said
mode-on s m i h n = rw (add-one i, drop-cons s i 0 h) (ap (λ b. elim b [ true ↦ m | false ↦ mode_said (get_or s i 0) (drop (suc i) s) ]) (ne_eqb (get_or s i 0) 10 n))

pub mode-ended : (s : List ℕ) (m i : ℕ) → i < length s → get_or s i 0 ≡ 10 → mode_said m (drop i s) ≡ m
unfolding mode_said
mode-ended s m i h e = rw (drop-cons s i 0 h, e) refl

pub mode-none : (s : List ℕ) (m i : ℕ) → length s ≤ i → mode_said m (drop i s) ≡ 0
unfolding mode_said
mode-none s m i h = rw (drop_of_length-le s {i = i} h) refl
