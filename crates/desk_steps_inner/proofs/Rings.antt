-- A ring that a step wrote has room in a line.
use Rattle.words.proofs.Plain.{ℕ, ◌≤◌, arith, ◌≡◌, ap, ◌∙◌, List, length, length-replicate}
use Rattle.desk_spec.specs.Answers.{blank}
use Rattle.desk_texts_inner.specs.Says.{longest_ring}

-- it is as long as the output was, which is as long as the reading
pub ring-short : (w o : List ℕ) (m : ℕ) → length w ≤ 4095 → o ≡ blank (length w) → m ≡ length o → m ≤ longest_ring
ring-short w o m h e l = omega (arith, h, l, ap length e ∙ length-replicate (length w) 0)
