-- Laying out has one answer, and leaves the output in one way.
use Rattle.std.specs.Prelude.{Result, Ok, Err}
use Rattle.words.proofs.Plain.{ℕ, ◌≡◌, refl, sym, ap, ◌∙◌, List, length}
use Rattle.refusal.specs.declared.Refusal.{Refusal}
use Rattle.refusal.proofs.Unique.{one-refusal, never_both}
use Rattle.set_layout_spec.specs.Layout.{layout_order, LayoutSays}

pub one-layout : (n : ℕ) (p : List ℕ) (t : ℕ) (b : List ℕ) (x y : Result Unit Refusal) (u v : List ℕ) → LayoutSays n p t b x u → LayoutSays n p t b y v → (x ≡ y) × (u ≡ v)
one-layout n p t b (Ok _) (Ok _) u v s q = (refl, s.1 ∙ sym q.1)
one-layout n p t b (Ok _) (Err r) u v s q = absurd (never_both (layout_order n t (length b)) r q.0 s.0)
one-layout n p t b (Err r) (Ok _) u v s q = absurd (never_both (layout_order n t (length b)) r s.0 q.0)
one-layout n p t b (Err r) (Err o) u v s q = (ap Err (one-refusal (layout_order n t (length b)) r o s.0 q.0), s.1 ∙ sym q.1)
