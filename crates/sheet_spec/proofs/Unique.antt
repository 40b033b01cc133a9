-- Placing a target has one answer, and leaves the buffer in one way.
--     one_placed
use Rattle.words.proofs.Plain.{ℕ, ◌≡◌, sym, ap, ◌∙◌, Bool, List, length}
use Rattle.std.specs.Prelude.{Result, Ok, Err}
use Rattle.refusal.specs.declared.Refusal.{Refusal}
use Rattle.refusal.proofs.Unique.{one-refusal, never_both}
use Rattle.sheet_spec.specs.{declared.Sheet.Sheet, Says.sheet_order, Says.TargetSays}

module _ (o : Sheet) (w : List ℕ) (i : ℕ) (last : Bool) (b : List ℕ) where
  pub one_placed : (x y : Result ℕ Refusal) (u v : List ℕ) → TargetSays o w i last b x u → TargetSays o w i last b y v → (x ≡ y) × (u ≡ v)
  one_placed (Ok m) (Ok n) u v p q = (ap Ok (p.1.next ∙ sym q.1.next), p.1.bytes ∙ sym q.1.bytes)
  one_placed (Ok m) (Err r) u v p q = absurd (never_both (sheet_order o w i (length b)) r q.0 p.0)
  one_placed (Err r) (Ok m) u v p q = absurd (never_both (sheet_order o w i (length b)) r p.0 q.0)
  one_placed (Err r) (Err s) u v p q = (ap Err (one-refusal (sheet_order o w i (length b)) r s p.0 q.0), p.1 ∙ sym q.1)
