-- What reading rings and a reading behind them promises.
--     ReadsRings u q        the words of u spell the rings q .0 and, last, the reading q .1
--     SpeltSays u r out     the sectors lie end to end in out, those of the rings up to one place and those of the reading up to another; or u spells no such
--     EachSays u n b        whether each of the rings has n sectors
use Rattle.std.specs.Prelude.{ℕ, ◌-◌, ◌≤◌, ◌≡◌, Bool, true, false, List, length, take, drop, Option, Some, None}
use Rattle.text_spec.specs.Ascii.{space}
use Rattle.text_words_spec.specs.Words.{pieces, Nibbles}
use Rattle.strip_spec.specs.Strip.{joined}
use Rattle.desk_spec.specs.Questions.{EachNibbles, words_of}
use Rattle.desk_spec.specs.Sights.{AsLong}

-- rings, and a reading behind them
pub record ReadsRings (u : List ℕ) (q : List (List ℕ) × List ℕ) : Type 0 where
  pub rings : EachNibbles q.0
  pub sectors : Nibbles q.1
  pub words : pieces space u ≡ words_of q.0 q.1

-- their sectors, up to the place l and from there up to the place m
pub record EndToEnd (u out : List ℕ) (l m : ℕ) : Type 0 where
  pub ts : List (List ℕ)
  pub last : List ℕ
  pub reads : ReadsRings u (ts, last)
  pub order : l ≤ m
  pub room : m ≤ length out
  pub rings : take l out ≡ joined ts
  pub reading : take (m - l) (drop l out) ≡ last

abbrev pub SpeltSays : List ℕ → Option (ℕ × ℕ) → List ℕ → Type 0
SpeltSays u (Some p) out = EndToEnd u out p.0 p.1
SpeltSays u None out = (q : List (List ℕ) × List ℕ) → ReadsRings u q → ⊥

abbrev pub EachSays : List ℕ → ℕ → Bool → Type 0
EachSays u n true = (q : List (List ℕ) × List ℕ) → ReadsRings u q → AsLong n q.0
EachSays u n false = (q : List (List ℕ) × List ℕ) → ReadsRings u q → AsLong n q.0 → ⊥
