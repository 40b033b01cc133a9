-- What the program reads: the output for what was read is that for the whole input, and it lies within the buffer.
--     input-full, input-ended, input-by    where the buffer is full, where the input ended, by what was read
--     input-inside                         the output lies within the buffer
use Rattle.words.proofs.Plain.{ℕ, ◌≤◌, arith, ◌≡◌, ap, List, length, take}
use Rattle.guard_spec.specs.declared.Rule.{Rule}
use Rattle.set_text_spec.specs.Prints.{PrintedBy}
use Rattle.set_text_spec.proofs.{First.printed-first, Unique.printed-inside, Unique.printed-length}
use Rattle.program_reading_inner.specs.declared.Most.{Most}
use Rattle.program_reading_inner.specs.declared.Most.TheVariants as M
use Rattle.set_program_inner.specs.Says.{set_line_bytes, InputSays}

module _ (rule : Rule) (line b : List ℕ) (r : ℕ) (b' : List ℕ) where
  pub input-full : set_line_bytes ≤ length line → PrintedBy rule line b r b' → InputSays rule M.Full line b r b'
  input-full h p = record { inside = printed-inside rule line b r b' p; long = printed-length rule line b r b' p; output = λ s e. printed-first rule (length line) s h b r b' (rw e p) }

  pub input-ended : (got : ℕ) → PrintedBy rule (take got line) b r b' → InputSays rule (M.Ended got) line b r b'
  input-ended got p = record { inside = printed-inside rule (take got line) b r b' p; long = printed-length rule (take got line) b r b' p; output = p }

  pub input-by : (most m : Most) → most ≡ m → InputSays rule m line b r b' → InputSays rule most line b r b'
  input-by most m e p = rw e p

  pub input-inside : (most : Most) → InputSays rule most line b r b' → (r ≤ length b) × (length b' ≡ length b)
  input-inside M.Full p = (p.inside, p.long)
  input-inside (M.Ended got) p = (p.inside, p.long)
  input-inside M.Failed p = (omega (arith, p.0), ap length p.1)
