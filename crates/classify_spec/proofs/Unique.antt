-- Classifying has one answer.
use Rattle.words.proofs.Plain.{ℕ, ◌≡◌, sym, ap, ◌∙◌, List}
use Rattle.refusal.specs.Calls.{one_reading}
use Rattle.refusal.proofs.Unique.{one-refusal, never_both}
use Rattle.std.specs.Prelude.{Result, Ok, Err}
use Rattle.refusal.specs.declared.Refusal.{Refusal}
use Rattle.rings.specs.declared.Class.{Class}
use Rattle.classify_spec.specs.Says.{ClassifySays}

-- two answers to one question are one
pub one_answer : (w : List ℕ) (k : ℕ) (a b : Result Class Refusal) → ClassifySays w k a → ClassifySays w k b → a ≡ b
one_answer w k (Ok c) (Ok d) p q = ap Ok (p.1 ∙ sym q.1)
one_answer w k (Ok c) (Err r) p q = absurd (never_both (one_reading w k) r q p.0)
one_answer w k (Err r) (Ok d) p q = absurd (never_both (one_reading w k) r p q.0)
one_answer w k (Err r) (Err t) p q = ap Err (one-refusal (one_reading w k) r t p q)
