-- What the parts of `first` promise.
--     SumWithin cs r      r is the sum of the counts, or 65 where that is above 64
--     FirstIn k cs o text what the first ring prints, in the output o
use Rattle.std.specs.Prelude.{ℕ, ◌<◌, ◌≤◌, ◌≡◌, List, Result}
use Rattle.words.specs.Sum.{sum_of}
use Rattle.refusal.specs.declared.Refusal.{Refusal}
use Rattle.shades_spec.specs.Answers.{FirstSays}
use Rattle.desk_spec.specs.Texts.{first_ring_text}
use Rattle.desk_spec.specs.Answers.{AnswerShows}

pub record SumWithin (cs : List ℕ) (r : ℕ) : Type 0 where
  pub small : sum_of cs ≤ 64 → r ≡ sum_of cs
  pub great : 64 < sum_of cs → r ≡ 65
  pub most : r ≤ 65

abbrev pub FirstIn : ℕ → List ℕ → List ℕ → List ℕ → Type 0
FirstIn k cs o text = AnswerShows {A = Result Unit Refusal × List ℕ} (λ x. FirstSays k cs o x.0 x.1) (λ x. first_ring_text x.0 x.1) text
