-- What reading counts promises: c is what the lent numbers are afterwards.
--     LastSays t b m r c     t is one count, which stands at place m now; or it is none
--     ListedSays t r c       t is the first of the lent numbers, a comma between two; or it is no counts
--     WordCounts t cs        t is one word, the counts cs
--     WordSays t r c         the same of a text that is one word
--     ReadsRing t q          t is a reading and counts, one space between them
--     AfterAsked Says k s t text    what a question of them prints, where s and t are the two words
use Rattle.std.specs.Prelude.{ℕ, ◌+◌, ◌≤◌, ◌≡◌, List, [], ◌∷◌, map, length, take, set, Option, Some, None}
use Rattle.text_spec.specs.Ascii.{space}
use Rattle.text_spec.specs.Decimal.{decimal}
use Rattle.text_spec.specs.Text.{hex_of}
use Rattle.text_words_spec.specs.Words.{pieces, Nibbles, Spelt}
use Rattle.desk_spec.specs.Questions.{ThreeDigits, CountsSpelt, Replies}

abbrev pub LastSays : List ℕ → List ℕ → ℕ → Option ℕ → List ℕ → Type 0
LastSays t b m (Some j) c = (j ≡ m + 1) × ((x : ℕ) × ThreeDigits x × (t ≡ decimal x) × (c ≡ set b m x))
LastSays t b m None c = (x : ℕ) → ThreeDigits x → t ≡ decimal x → ⊥

abbrev pub ListedSays : List ℕ → Option ℕ → List ℕ → Type 0
ListedSays t (Some j) c = (j ≤ length c) × CountsSpelt t (take j c)
ListedSays t None c = (cs : List ℕ) → CountsSpelt t cs → ⊥

pub record WordCounts (t cs : List ℕ) : Type 0 where
  pub alone : pieces space t ≡ t ∷ []
  pub counts : CountsSpelt t cs

abbrev pub WordSays : List ℕ → Option ℕ → List ℕ → Type 0
WordSays t (Some j) c = (j ≤ length c) × WordCounts t (take j c)
WordSays t None c = (cs : List ℕ) → WordCounts t cs → ⊥

-- a reading and counts
pub record ReadsRing (t : List ℕ) (q : List ℕ × List ℕ) : Type 0 where
  pub sectors : Nibbles q.0
  pub word : List ℕ
  pub counts : CountsSpelt word q.1
  pub words : pieces space t ≡ map hex_of q.0 ∷ word ∷ []

abbrev pub AfterAsked : (ℕ → List ℕ → List ℕ → List ℕ → Type 0) → ℕ → List ℕ → List ℕ → List ℕ → Type 0
AfterAsked Says k s t text = Replies {Q = List ℕ × List ℕ} (λ q. Spelt s q.0 × WordCounts t q.1) (λ q. Says k q.0 q.1) text
