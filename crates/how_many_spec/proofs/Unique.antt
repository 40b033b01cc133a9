-- No numbers have two answers to how many rings of a kind there are.
-- The order of the refusals is that of `limits` (numbers_order there).
use Rattle.words.proofs.Plain.{ℕ, ◌≡◌, sym, ap, ◌∙◌, Bool, List}
use Rattle.std.specs.Prelude.{Result, Ok, Err}
use Rattle.refusal.specs.declared.Refusal.{Refusal}
use Rattle.refusal.proofs.Unique.{one-refusal, never_both}
use Rattle.limits_spec.specs.Limits.{numbers_order}
use Rattle.limits_spec.proofs.Unique.{listable-passed}
use Rattle.how_many_spec.specs.Says.{most_counted, CountSays}

pub one-count : (kind : List ℕ → Bool) (k n : ℕ) (a b : Result ℕ Refusal) → CountSays kind k n a → CountSays kind k n b → a ≡ b
one-count kind k n (Ok x) (Ok y) p q = ap Ok (p.1 ∙ sym q.1)
one-count kind k n (Ok x) (Err t) p q = absurd (never_both (numbers_order most_counted k n) t q (listable-passed most_counted k n p.0))
one-count kind k n (Err r) (Ok y) p q = absurd (never_both (numbers_order most_counted k n) r p (listable-passed most_counted k n q.0))
one-count kind k n (Err r) (Err t) p q = ap Err (one-refusal (numbers_order most_counted k n) r t p q)
