-- The output that a strip is written into.
use Rattle.words.proofs.Plain.{ℕ, ◌^◌, ◌≤◌, arith, ◌≡◌, ap, ◌∙◌, length, take, length-take}
use Rattle.desk_spec.specs.Answers.{blank}
use Rattle.desk_texts_inner.specs.Says.{longest_ring}
use Rattle.desk_words_inner.proofs.Shapes.{take-blank}

-- the first bytes of an output of 4,096: as many as the strip has sectors, and all are 0
pub strip-room : (k n m : ℕ) → m ≡ k ^ n → k ^ n ≤ 4096 → (take m (blank 4096) ≡ blank (k ^ n)) × (length (take m (blank 4096)) ≤ longest_ring)
strip-room k n m e h = (take-blank m 4096 (omega (arith, e, h)) ∙ ap blank e, simp length-take (omega (arith, e, h)))
