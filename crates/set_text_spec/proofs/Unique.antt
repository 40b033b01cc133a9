-- A line has one output, and a buffer one content.
--     one-text         no line has two outputs
--     one-printed      no two answers, nor two buffers, fit one call
--     printed-inside   the output lies within the buffer
use Rattle.words.proofs.Plain.{ℕ, ◌+◌, ◌≤◌, arith, ◌≡◌, sym, ap, ◌∙◌, List, length, sets}
use Rattle.refusal.specs.Numbers.{number_of}
use Rattle.text_spec.specs.Text.{refused_line}
use Rattle.text_spec.proofs.Put.{placed-length}
use Rattle.set_line_spec.proofs.Four.{one-set-line}
use Rattle.refusal.proofs.Unique.{one-refusal, never_both}
use Rattle.set_pick_spec.specs.Order.{set_order}
use Rattle.set_pick_spec.proofs.Unique.{askable-passed}
use Rattle.guard_spec.specs.declared.Rule.{Rule}
use Rattle.set_text_spec.specs.Prints.{NumbersPrintBy, refused, chosen, SetPrintsBy, malformed, spelt, PrintedBy, small, whole}

-- the output for numbers
pub one-numbers-text : (rule : Rule) (n k d want : ℕ) (t u : List ℕ) → NumbersPrintBy rule n k d want t → NumbersPrintBy rule n k d want u → t ≡ u
one-numbers-text rule n k d want t u (refused r g e) (refused s h f) = e ∙ ap (λ x. refused_line (number_of x)) (one-refusal (set_order n k d want) r s g h) ∙ sym f
one-numbers-text rule n k d want t u (refused r g e) (chosen a f) = absurd (never_both (set_order n k d want) r g (askable-passed n k d want a))
one-numbers-text rule n k d want t u (chosen a e) (refused s h f) = absurd (never_both (set_order n k d want) s h (askable-passed n k d want a))
one-numbers-text rule n k d want t u (chosen a e) (chosen b f) = e ∙ sym f

-- the output for a line
pub one-text : (rule : Rule) (s t u : List ℕ) → SetPrintsBy rule s t → SetPrintsBy rule s u → t ≡ u
one-text rule s t u (malformed x e) (malformed y f) = e ∙ sym f
one-text rule s t u (malformed x e) (spelt n k d want p q) = absurd (x n k d want p)
one-text rule s t u (spelt n k d want p q) (malformed y f) = absurd (y n k d want p)
one-text rule s t u (spelt n k d want p q) (spelt n' k' d' want' p' q') =
    let e = one-set-line s n k d want n' k' d' want' p p' in
    one-numbers-text rule n' k' d' want' t u (rw (e.n-same, e.k-same, e.d-same, e.want-same) at q) q'

-- a buffer's content
pub one-printed : (rule : Rule) (s b : List ℕ) (r r' : ℕ) (b' b'' : List ℕ) → PrintedBy rule s b r b' → PrintedBy rule s b r' b'' → (r ≡ r') × (b' ≡ b'')
one-printed rule s b r r' b' b'' (small h e f) (small l g k) = (e ∙ sym g, f ∙ sym k)
one-printed rule s b r r' b' b'' (small h e f) (whole l t p m q) = absurd (omega arith)
one-printed rule s b r r' b' b'' (whole h t p m q) (small l g k) = absurd (omega arith)
one-printed rule s b r r' b' b'' (whole h t p m q) (whole l u p' m' q') =
    let e : t ≡ u = one-text rule s t u p p' in
    (q.next ∙ ap (λ (x : List ℕ). 0 + length x) e ∙ sym q'.next, q.bytes ∙ ap (sets b 0) e ∙ sym q'.bytes)

-- the output lies within the buffer
pub printed-inside : (rule : Rule) (s b : List ℕ) (r : ℕ) (b' : List ℕ) → PrintedBy rule s b r b' → r ≤ length b
printed-inside rule s b r b' (small h e f) = omega arith
printed-inside rule s b r b' (whole h t p m q) = omega (arith, q.next)

-- and the buffer keeps its length
pub printed-length : (rule : Rule) (s b : List ℕ) (r : ℕ) (b' : List ℕ) → PrintedBy rule s b r b' → length b' ≡ length b
printed-length rule s b r b' (small h e f) = ap length f
printed-length rule s b r b' (whole h t p m q) = placed-length b 0 t r b' q
