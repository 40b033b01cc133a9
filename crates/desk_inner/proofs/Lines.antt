-- What a line prints, by its first word.
--     line-long, line-alone, line-unknown    a line that asks nothing
--     put-line                               one that has a verb
use Rattle.words.proofs.Plain.{ℕ, ◌+◌, ◌-◌, ◌<◌, ◌≤◌, arith, ◌≡◌, refl, sym, ap, ◌∙◌, false≢true, List, length, take, drop}
use Rattle.std.specs.Prelude.{Option, Some, None, Result}
use Rattle.refusal.specs.declared.Refusal.{Refusal}
use Rattle.text_words_spec.specs.Words.{PieceAt}
use Rattle.desk_spec.specs.{declared.Verb.Verb, Verbs.is_known, Verbs.verb_of}
use Rattle.desk_spec.specs.Answers.{VerbSays, LineReads, DeskAnswers}
use Rattle.desk_spec.proofs.Questions.{place-one}
use Rattle.desk_texts_inner.specs.Says.{Answered}
use Rattle.desk_texts_inner.proofs.Putting.{put-good}
use Rattle.desk_words_inner.proofs.Shapes.{rest_all}

pub line-long : (s : List ℕ) → 4095 < length s → (q : Verb × List ℕ) → LineReads s q → ⊥
line-long s h q x = omega (arith, h, x.within)

module _ (s : List ℕ) (e : ℕ) (p : PieceAt 32 s e) where
  pub line-alone : length s ≤ e → (q : Verb × List ℕ) → LineReads s q → ⊥
  line-alone h q x = omega (arith, h, x.inside, place-one 32 s e x.at p x.ends)

  pub line-unknown : (f : Option Verb) → f ≡ verb_of (take e s) → f ≡ None → (q : Verb × List ℕ) → LineReads s q → ⊥
  line-unknown f d u q x =
      let a = place-one 32 s e x.at p x.ends in
      let z : None ≡ Some q.0 = sym u ∙ d ∙ ap (λ (i : ℕ). verb_of (take i s)) a ∙ x.verb in
      false≢true (ap is_known z)

  pub put-line : length s ≤ 4095 → e < length s → (f : Option Verb) → f ≡ verb_of (take e s) → (v : Verb) → f ≡ Some v → (b : List ℕ) (at : ℕ) (r : Result ℕ Refusal) (b' : List ℕ) →
      Answered (VerbSays v (take (length s - (e + 1)) (drop (e + 1) s))) b at r b' → Answered (DeskAnswers s) b at r b'
  put-line l h f d v k b at r b' x =
      put-good (LineReads s) (λ q. VerbSays q.0 q.1) b at r b' (v, drop (e + 1) s)
      (record { within = l; at = e; ends = p; inside = h; verb = sym d ∙ k; behind = refl }) (rw (rest_all s (e + 1)) at x)
