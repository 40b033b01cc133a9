-- No two answers, nor two outputs, fit one call.
use Rattle.words.proofs.Plain.{ℕ, arith, ◌≡◌, refl, sym, ap, ◌∙◌, List, length}
use Rattle.std.specs.Prelude.{Result, Ok, Err}
use Rattle.refusal.specs.declared.Refusal.{Refusal}
use Rattle.refusal.specs.Calls.{counted_first, counted_next}
use Rattle.refusal.proofs.Unique.{one-refusal, never_both}
use Rattle.shades_spec.specs.{Answers.FirstSays, Answers.NextSays, declared.Next.Next}
use Rattle.shades_spec.specs.declared.Next.TheVariants.{Ring, Done}

-- of the first ring
pub one-first : (k : ℕ) (cs o : List ℕ) (a b : Result Unit Refusal) (p q : List ℕ) → FirstSays k cs o a p → FirstSays k cs o b q → (a ≡ b) × (p ≡ q)
one-first k cs o (Ok _) (Ok _) p q x y = (refl, cc (x.1, y.1))
one-first k cs o (Ok _) (Err r) p q x y = absurd (never_both (counted_first (length o) k cs) r y.0 x.0)
one-first k cs o (Err r) (Ok _) p q x y = absurd (never_both (counted_first (length o) k cs) r x.0 y.0)
one-first k cs o (Err r) (Err t) p q x y = (ap Err (one-refusal (counted_first (length o) k cs) r t x.0 y.0), x.1 ∙ sym y.1)

-- of the next ring
pub one-next : (w : List ℕ) (k : ℕ) (cs o : List ℕ) (a b : Result Next Refusal) (p q : List ℕ) → NextSays w k cs o a p → NextSays w k cs o b q → (a ≡ b) × (p ≡ q)
one-next w k cs o (Ok Ring) (Ok Ring) p q x y = (refl, cc (x.1, y.1))
one-next w k cs o (Ok Ring) (Ok Done) p q x y = absurd (let z : ◌≡◌ {A = ℕ} 0 1 = cc (x.1, y.1) in omega arith)
one-next w k cs o (Ok Ring) (Err r) p q x y = absurd (never_both (counted_next w k (length o) cs) r y.0 x.0)
one-next w k cs o (Ok Done) (Ok Ring) p q x y = absurd (let z : ◌≡◌ {A = ℕ} 0 1 = cc (x.1, y.1) in omega arith)
one-next w k cs o (Ok Done) (Ok Done) p q x y = (refl, x.2 ∙ sym y.2)
one-next w k cs o (Ok Done) (Err r) p q x y = absurd (never_both (counted_next w k (length o) cs) r y.0 x.0)
one-next w k cs o (Err r) (Ok Ring) p q x y = absurd (never_both (counted_next w k (length o) cs) r x.0 y.0)
one-next w k cs o (Err r) (Ok Done) p q x y = absurd (never_both (counted_next w k (length o) cs) r x.0 y.0)
one-next w k cs o (Err r) (Err t) p q x y = (ap Err (one-refusal (counted_next w k (length o) cs) r t x.0 y.0), x.1 ∙ sym y.1)
