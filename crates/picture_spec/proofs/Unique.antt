-- Drawing has one answer, and leaves the buffer in one way.
--     one-drawn
use Rattle.words.proofs.Plain.{ℕ, ◌≡◌, sym, ap, ◌∙◌, List, length}
use Rattle.std.specs.Prelude.{Result, Ok, Err}
use Rattle.refusal.specs.declared.Refusal.{Refusal}
use Rattle.refusal.proofs.Unique.{one-refusal, never_both}
use Rattle.picture_spec.specs.declared.Tone.{Tone}
use Rattle.picture_spec.specs.Says.{draw_order, DrawSays}

pub one-drawn : (tone : Tone) (w : List ℕ) (k : ℕ) (b : List ℕ) (x y : Result ℕ Refusal) (u v : List ℕ) → DrawSays tone w k b x u → DrawSays tone w k b y v → (x ≡ y) × (u ≡ v)
one-drawn tone w k b (Ok m) (Ok o) u v p q = (ap Ok (p.1.next ∙ sym q.1.next), p.1.bytes ∙ sym q.1.bytes)
one-drawn tone w k b (Ok m) (Err r) u v p q = absurd (never_both (draw_order w k (length b)) r q.0 p.0)
one-drawn tone w k b (Err r) (Ok m) u v p q = absurd (never_both (draw_order w k (length b)) r p.0 q.0)
one-drawn tone w k b (Err r) (Err o) u v p q = (ap Err (one-refusal (draw_order w k (length b)) r o p.0 q.0), p.1 ∙ sym q.1)
