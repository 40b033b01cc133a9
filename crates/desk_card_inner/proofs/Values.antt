-- From an answer to what the values print.
--     answered-one, answered-several    what one value, and several, print
use Rattle.words.proofs.Plain.{ℕ, ◌-◌, ◌<◌, arith, ◌≡◌, subst, List, length, get_or, take, drop, length-drop, take_all}
use lib.Ieee.{Float, nan}
use Rattle.std.specs.Prelude.{Result}
use Rattle.refusal.specs.declared.Refusal.{Refusal}
use Rattle.density_spec.specs.Says.{SectorSays, RingSays}
use Rattle.desk_spec.specs.{Floats.first_card, Texts.sector_text, Texts.shades_text}
use Rattle.desk_spec.specs.Answers.{AnswerShows, ShadesSays, one_value, several_values, blank}
use Rattle.desk_texts_inner.specs.Says.{Answered}
use Rattle.desk_texts_inner.proofs.Putting.{answered-on}

module _ (k : ℕ) (xs : List Float) where
  pub answered-one : length xs ≡ 3 → (b : List ℕ) (at : ℕ) (r : Result ℕ Refusal) (b' : List ℕ) →
      Answered (AnswerShows (λ a. SectorSays (get_or xs 2 nan) k (first_card xs) a) sector_text) b at r b' → Answered (ShadesSays k xs) b at r b'
  answered-one l b at r b' p = answered-on _ (ShadesSays k xs) (λ t z. one_value l z) b at r b' p

  -- the values behind the card, in an output that is as long and 0
  pub ring-said : (o : List ℕ) → o ≡ blank (length (drop 2 xs)) → (a : Result Unit Refusal) (d : List ℕ) → RingSays (take (length xs - 2) (drop 2 xs)) k (first_card xs) o a d →
      RingSays (drop 2 xs) k (first_card xs) (blank (length (drop 2 xs))) a d
  ring-said o e a d s =
      let f : take (length xs - 2) (drop 2 xs) ≡ drop 2 xs = take_all (length xs - 2) (drop 2 xs) (simp length-drop (omega arith)) in
      subst (λ (w : List ℕ). RingSays (drop 2 xs) k (first_card xs) w a d) e (subst (λ (v : List Float). RingSays v k (first_card xs) o a d) f s)

  pub answered-several : 3 < length xs → (b : List ℕ) (at : ℕ) (r : Result ℕ Refusal) (b' : List ℕ) →
      Answered (AnswerShows {A = Result Unit Refusal × List ℕ} (λ a. RingSays (drop 2 xs) k (first_card xs) (blank (length (drop 2 xs))) a.0 a.1) (λ a. shades_text a.0 a.1)) b at r b' →
      Answered (ShadesSays k xs) b at r b'
  answered-several l b at r b' p = answered-on _ (ShadesSays k xs) (λ t z. several_values l z) b at r b' p
