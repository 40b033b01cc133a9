-- No two answers, nor two outputs, fit one step from a lent reading.
--     one-step-from         to the least of a kind, the moves included
--     one-bracelet-from     to the least bracelet
use Rattle.std.specs.Prelude.{Result, Ok, Err}
use Rattle.words.proofs.Plain.{ℕ, arith, ◌≡◌, refl, sym, ap, ◌∙◌, Bool, some, List, length}
use Rattle.rings.specs.Steps.{moves}
use Rattle.refusal.specs.declared.Refusal.{Refusal}
use Rattle.refusal.proofs.Unique.{one-refusal, never_both}
use Rattle.walk_spec.specs.declared.Outcome.{Outcome}
use Rattle.walk_spec.specs.declared.Outcome.TheVariants as O
use Rattle.walk_bracelet_spec.specs.declared.Arrival.{Arrival}
use Rattle.walk_bracelet_spec.specs.declared.Arrival.TheVariants as A
use Rattle.walk_reading_spec.specs.Says.{reading_order, StepFromSays, BraceletFromSays}

pub one-step-from : (kind : List ℕ → Bool) (w : List ℕ) (k : ℕ) (o : List ℕ) (a b : Result Outcome Refusal) (u v : List ℕ) → StepFromSays kind w k o a u → StepFromSays kind w k o b v →
    (a ≡ b) × (u ≡ v)
one-step-from kind w k o (Ok (O.Moved m)) (Ok (O.Moved l)) u v x y =
    let e : u ≡ v = cc (x.1, y.1) in
    (ap (λ t. Ok (O.Moved t)) (x.2 ∙ ap (λ (t : List ℕ). moves k w (some t)) e ∙ sym y.2), e)
one-step-from kind w k o (Ok (O.Moved m)) (Ok (O.Done l)) u v x y = absurd (let z : ◌≡◌ {A = ℕ} 0 1 = cc (x.1, y.1) in omega arith)
one-step-from kind w k o (Ok (O.Moved m)) (Err t) u v x y = absurd (never_both (reading_order w k (length o)) t y.0 x.0)
one-step-from kind w k o (Ok (O.Done m)) (Ok (O.Moved l)) u v x y = absurd (let z : ◌≡◌ {A = ℕ} 0 1 = cc (x.1, y.1) in omega arith)
one-step-from kind w k o (Ok (O.Done m)) (Ok (O.Done l)) u v x y = (ap (λ t. Ok (O.Done t)) (x.2 ∙ sym y.2), x.3 ∙ sym y.3)
one-step-from kind w k o (Ok (O.Done m)) (Err t) u v x y = absurd (never_both (reading_order w k (length o)) t y.0 x.0)
one-step-from kind w k o (Err r) (Ok (O.Moved l)) u v x y = absurd (never_both (reading_order w k (length o)) r x.0 y.0)
one-step-from kind w k o (Err r) (Ok (O.Done l)) u v x y = absurd (never_both (reading_order w k (length o)) r x.0 y.0)
one-step-from kind w k o (Err r) (Err t) u v x y = (ap Err (one-refusal (reading_order w k (length o)) r t x.0 y.0), x.1 ∙ sym y.1)

pub one-bracelet-from : (w : List ℕ) (k : ℕ) (o : List ℕ) (a b : Result Arrival Refusal) (u v : List ℕ) → BraceletFromSays w k o a u → BraceletFromSays w k o b v → (a ≡ b) × (u ≡ v)
one-bracelet-from w k o (Ok A.Moved) (Ok A.Moved) u v x y = (refl, cc (x.1, y.1))
one-bracelet-from w k o (Ok A.Moved) (Ok A.Done) u v x y = absurd (let z : ◌≡◌ {A = ℕ} 0 1 = cc (x.1, y.1) in omega arith)
one-bracelet-from w k o (Ok A.Moved) (Err t) u v x y = absurd (never_both (reading_order w k (length o)) t y.0 x.0)
one-bracelet-from w k o (Ok A.Done) (Ok A.Moved) u v x y = absurd (let z : ◌≡◌ {A = ℕ} 0 1 = cc (x.1, y.1) in omega arith)
one-bracelet-from w k o (Ok A.Done) (Ok A.Done) u v x y = (refl, x.2 ∙ sym y.2)
one-bracelet-from w k o (Ok A.Done) (Err t) u v x y = absurd (never_both (reading_order w k (length o)) t y.0 x.0)
one-bracelet-from w k o (Err r) (Ok A.Moved) u v x y = absurd (never_both (reading_order w k (length o)) r x.0 y.0)
one-bracelet-from w k o (Err r) (Ok A.Done) u v x y = absurd (never_both (reading_order w k (length o)) r x.0 y.0)
one-bracelet-from w k o (Err r) (Err t) u v x y = (ap Err (one-refusal (reading_order w k (length o)) r t x.0 y.0), x.1 ∙ sym y.1)
