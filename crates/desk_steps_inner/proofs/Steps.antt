-- What a step prints.
--     refused       a refusal that `?` hands on: nothing is written
--     step-shown    from the text of a step's answer to what the question prints
use Rattle.words.proofs.Plain.{ℕ, ◌≡◌, refl, subst, Bool, List, length}
use Rattle.std.specs.Prelude.{Result, Ok, Err, IsErrAnd}
use Rattle.refusal.specs.declared.Refusal.{Refusal}
use Rattle.walk_spec.specs.declared.Outcome.{Outcome}
use Rattle.walk_reading_spec.specs.Says.{StepFromSays}
use Rattle.desk_spec.specs.{Texts.refusal_text, Texts.step_text, Answers.KindPrints, Answers.blank}
use Rattle.desk_texts_inner.specs.Says.{Answered}
use Rattle.desk_texts_inner.proofs.Putting.{answered-on}

pub refused : (P : List ℕ → Type 0) (q : Refusal) → P (refusal_text q) → (r : Result ℕ Refusal) → IsErrAnd r (λ y. y ≡ q) → (b : List ℕ) (at : ℕ) → Answered P b at r b
refused P q p (Ok r) h b at = absurd h
refused P q p (Err o) h b at = (rw h p, refl)

pub step-shown : (kind : List ℕ → Bool) (k : ℕ) (w o c : List ℕ) (a : Result Outcome Refusal) → o ≡ blank (length w) → StepFromSays kind w k o a c →
    (b : List ℕ) (at : ℕ) (r : Result ℕ Refusal) (b' : List ℕ) → Answered (λ t. t ≡ step_text a c) b at r b' → Answered (KindPrints kind k w) b at r b'
step-shown kind k w o c a e s b at r b' p =
    answered-on _ _ (λ t q. record { answer = (a, c); says = subst (λ (x : List ℕ). StepFromSays kind w k x a c) e s; is = q }) b at r b' p
