-- Writing a strip and telling a place have one answer, and the output is determined too.
--     never-refused   a strip that can be written is not refused
--     one-writing     two answers to one writing are one, and so are the outputs
--     one-telling     two answers to one reading are one
use Rattle.words.proofs.Plain.{ℕ, ◌^◌, ◌≡◌, refl, sym, ap, ◌∙◌, List, length}
use Rattle.std.specs.Prelude.{Result, Ok, Err}
use Rattle.refusal.specs.{declared.Refusal.Refusal, Order.Given}
use Rattle.refusal.proofs.Unique.{one-refusal, never_both}
use Rattle.limits_spec.specs.Limits.{Listable}
use Rattle.limits_spec.proofs.Unique.{listable-passed}
use Rattle.strip_spec.specs.Strip.{strip}
use Rattle.strip_spec.proofs.Places.{places-one}
use Rattle.strip_spec.specs.Says.{strip_order, StripSays, place_order, PlaceSays}

-- ---- writing

-- a strip that can be written is not refused
pub never-refused : (n k m : ℕ) (r : Refusal) → Listable 4096 k n → m ≡ k ^ n → Given (strip_order n k m) r → ⊥
never-refused n k m r l e g = never_both (strip_order n k m) r g (listable-passed 4096 k n l, e)

pub one-writing : (n k : ℕ) (o : List ℕ) (a b : Result Unit Refusal) (u v : List ℕ) → StripSays n k o a u → StripSays n k o b v → (a ≡ b) × (u ≡ v)
one-writing n k o (Ok _) (Ok _) u v p q = (refl, p.2 ∙ sym q.2)
one-writing n k o (Ok _) (Err r) u v p q = absurd (never-refused n k (length o) r p.0 p.1 q.0)
one-writing n k o (Err r) (Ok _) u v p q = absurd (never-refused n k (length o) r q.0 q.1 p.0)
one-writing n k o (Err r) (Err t) u v p q = (ap Err (one-refusal (strip_order n k (length o)) r t p.0 q.0), p.1 ∙ sym q.1)

-- ---- telling a place

module _ (w : List ℕ) (k : ℕ) where
  pub one-telling : (a b : Result ℕ Refusal) → PlaceSays w k a → PlaceSays w k b → a ≡ b
  one-telling (Ok p) (Ok q) s t = ap Ok (places-one (strip (length w) k) w p q s.2 t.2)
  one-telling (Ok p) (Err r) s t = absurd (never_both (place_order w k) r t (s.0, s.1))
  one-telling (Err r) (Ok q) s t = absurd (never_both (place_order w k) r s (t.0, t.1))
  one-telling (Err r) (Err t) s u = ap Err (one-refusal (place_order w k) r t s u)
