-- From texts that are placed to what a question prints.
--     put-text       a line of which a relation holds
--     put-shown      an answer's line
--     shown-refused  a refusal that `?` hands on
--     answered-on    what one says of a text, the other says of it too
--     put-good       what a question prints, where a text asks it
--     put-bad        what a text prints that asks none
use Rattle.words.proofs.Plain.{ℕ, ◌≡◌, refl, sym, List}
use Rattle.std.specs.Prelude.{Result, Ok, Err, IsErrAnd}
use Rattle.refusal.specs.declared.Refusal.{Refusal}
use Rattle.stream_spec.specs.Blocks.{Puts}
use Rattle.desk_spec.specs.{Texts.refusal_text, Texts.malformed_text, Answers.AnswerShows}
use Rattle.desk_spec.specs.Questions.{Replies, good, bad}
use Rattle.desk_texts_inner.specs.Says.{desk_room, LinePrinted, Answered}

-- a text of which P holds
pub put-text : (P : List ℕ → Type 0) (b : List ℕ) (at : ℕ) (t : List ℕ) (r : ℕ) (b' : List ℕ) → P t → LinePrinted b at t r b' → Puts P desk_room b at r b'
put-text P b at t r b' p q = record { text = t; says = p; short = q.short; placed = q.placed }

-- an answer's line
pub put-shown : {A : Type 0} (P : A → Type 0) (f : A → List ℕ) (a : A) → P a → (b : List ℕ) (at r : ℕ) (b' : List ℕ) → LinePrinted b at (f a) r b' → Answered (AnswerShows P f) b at (Ok r) b'
put-shown P f a p b at r b' q = put-text (AnswerShows P f) b at (f a) r b' (record { answer = a; says = p; is = refl }) q

-- a refusal that is handed on: nothing is written
pub shown-refused : {A : Type 0} (P : A → Type 0) (f : A → List ℕ) (a : A) (q : Refusal) → P a → f a ≡ refusal_text q → (r : Result ℕ Refusal) → IsErrAnd r (λ y. y ≡ q) →
    (b : List ℕ) (at : ℕ) → Answered (AnswerShows P f) b at r b
shown-refused P f a q p e (Ok r) h b at = absurd h
shown-refused P f a q p e (Err o) h b at = (rw h (record { answer = a; says = p; is = sym e }), refl)

-- what one says of a text, the other says of it too
pub answered-on : (P Q : List ℕ → Type 0) → ((t : List ℕ) → P t → Q t) → (b : List ℕ) (at : ℕ) (r : Result ℕ Refusal) (b' : List ℕ) → Answered P b at r b' → Answered Q b at r b'
answered-on P Q f b at (Ok r) b' p = record { text = p.text; says = f p.text p.says; short = p.short; placed = p.placed }
answered-on P Q f b at (Err q) b' p = (f (refusal_text q) p.0, p.1)

module _ {X : Type 0} (Reads : X → Type 0) (Says : X → List ℕ → Type 0) where
  -- the question is asked
  pub put-good : (b : List ℕ) (at : ℕ) (r : Result ℕ Refusal) (b' : List ℕ) (x : X) → Reads x → Answered (Says x) b at r b' → Answered (Replies Reads Says) b at r b'
  put-good b at r b' x p q = answered-on (Says x) (Replies Reads Says) (λ t s. good x p s) b at r b' q

  -- none is
  pub put-bad : ((x : X) → Reads x → ⊥) → (b : List ℕ) → Replies Reads Says malformed_text × (b ≡ b)
  put-bad n b = (bad n refl, refl)

-- a question of another shape
pub put_as : {X Y : Type 0} (Reads : X → Type 0) (Says : X → List ℕ → Type 0) (Reads' : Y → Type 0) (Says' : Y → List ℕ → Type 0) →
    ((x : X) → Reads x → (y : Y) × Reads' y × ((t : List ℕ) → Says x t → Says' y t)) →
    ((y : Y) → Reads' y → (x : X) × Reads x) →
    (b : List ℕ) (at : ℕ) (r : Result ℕ Refusal) (b' : List ℕ) → Answered (Replies Reads Says) b at r b' → Answered (Replies Reads' Says') b at r b'
put_as Reads Says Reads' Says' f g b at r b' p = answered-on (Replies Reads Says) (Replies Reads' Says') on b at r b' p
  where
    on : (t : List ℕ) → Replies Reads Says t → Replies Reads' Says' t
    on t (good x u s) = let y = f x u in good y.0 y.1 (y.2 t s)
    on t (bad n e) = bad (λ y v. let x = g y v in n x.0 x.1) e
