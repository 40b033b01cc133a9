-- What the program reads.
--     picture-inside      it lies within the buffer, which keeps its length
use Rattle.words.proofs.Plain.{ℕ, ◌≤◌, arith, ◌≡◌, ap, List, length}
use Rattle.text_spec.proofs.Put.{placed-length}
use Rattle.picture_spec.specs.Says.{picture_room}
use Rattle.program_reading_inner.specs.declared.Most.{Most}
use Rattle.program_reading_inner.specs.declared.Most.TheVariants as M
use Rattle.picture_program_inner.specs.Says.{PictureInputSays}

module _ (line b : List ℕ) (r : ℕ) (b' : List ℕ) where
  pub picture-inside : (most : Most) → picture_room ≤ length b → PictureInputSays most line b r b' → (r ≤ length b) × (length b' ≡ length b)
  picture-inside M.Full h p = (omega (arith, p.0), ap length p.1)
  picture-inside (M.Ended got) h p = (omega (arith, p.short, p.placed.next), placed-length b 0 p.text r b' p.placed)
  picture-inside M.Failed h p = (omega (arith, p.0), ap length p.1)
