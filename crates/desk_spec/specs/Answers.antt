-- What a verb's call prints, by the call's own promise, and what a line prints.
--     AnswerShows P f text          text is what an answer prints that the call promises
--     KindPrints kind k w text, StepPrints v k w text    what a step from a reading prints
--     AboutSays v k w text    what a question about one reading prints
--     BothSays v k a b text   what a question about two readings prints
--     ManySays k n text       how many rings there are
--     StripPrints k n text    the strip
--     SeenSays k e ts r text  what is seen of the rings ts in the reading r
--     FirstPrints k cs text, AfterPrints k w cs text    the first ring of fixed counts, and the next
--     ShadesSays k xs text    what one value, or several, of the floats xs behind those of the card tell
--     VerbSays v t text       what the text t behind a verb prints
--     longest_line             a longer line is malformed
--     LineReads s q           the line s is a verb's name, a space, and a text
--     DeskAnswers s text          what the line s prints, its newline left out
-- An output that a call asks for is as long as the reading, that of a strip as long as the strip, that of a first ring as long as the sum of the counts, and 0 before.
-- That a line prints one text: proofs/Unique.
use Rattle.std.specs.Prelude.{ℕ, ◌+◌, ◌^◌, ◌<◌, ◌≤◌, ◌≡◌, Bool, List, map, length, take, drop, replicate, get_or, Float, Result, Some}
use Rattle.std.specs.Float.{nan}
use Rattle.text_spec.specs.Ascii.{space}
use Rattle.text_words_spec.specs.Words.{PieceAt}
use Rattle.rings.specs.Necklace.{necklace, lyndon}
use Rattle.rings.specs.Prenecklace.{prenecklace}
use Rattle.rings.specs.Alike.{same_ring, even_handed}
use Rattle.refusal.specs.declared.Refusal.{Refusal}
use Rattle.refusal.specs.Calls.{one_reading, two_readings}
use Rattle.classify_spec.specs.Says.{ClassifySays}
use Rattle.home_spec.specs.Says.{HomeSays, ToldSays, DistanceSays}
use Rattle.home_spec.specs.declared.Home.{Home as Homed}
use Rattle.strip_spec.specs.Says.{StripSays, PlaceSays}
use Rattle.how_many_spec.specs.Says.{CountSays}
use Rattle.stock_spec.specs.Stock.{home_byte}
use Rattle.walk_spec.specs.declared.Outcome.{Outcome}
use Rattle.walk_bracelet_spec.specs.declared.Arrival.{Arrival}
use Rattle.walk_reading_spec.specs.Says.{StepFromSays, BraceletFromSays}
use Rattle.words.specs.Sum.{sum_of}
use Rattle.shades_spec.specs.declared.Next.{Next}
use Rattle.shades_spec.specs.Answers.{FirstSays, NextSays}
use Rattle.desk_spec.specs.declared.Step.{Step}
use Rattle.desk_spec.specs.declared.Step.TheVariants.{Necklace, Lyndon, Prenecklace, Bracelet}
use Rattle.density_spec.specs.Says.{SectorSays, RingSays}
use Rattle.desk_spec.specs.declared.About.{About}
use Rattle.desk_spec.specs.declared.About.TheVariants.{Class, Home, Even, Place}
use Rattle.desk_spec.specs.declared.About.TheVariants as OfOne
use Rattle.desk_spec.specs.declared.Both.{Both}
use Rattle.desk_spec.specs.declared.Both.TheVariants.{Same, Apart}
use Rattle.desk_spec.specs.declared.Verb.{Verb}
use Rattle.desk_spec.specs.declared.Verb.TheVariants as Asks
use Rattle.desk_spec.specs.Verbs.{verb_of}
use Rattle.desk_spec.specs.Questions.{ReadsReading, ReadsPair, ReadsNumbers, ReadsByte, ReadsSight, ReadsCounts, ReadsAfter, Replies, ReadsShade}
use Rattle.desk_spec.specs.Texts.{class_text, home_text, told_text, distance_text, place_text, many_text, stock_text, step_text, arrival_text, strip_text, sight_text}
use Rattle.desk_spec.specs.Texts.{first_ring_text, next_ring_text, sector_text, shades_text}
use Rattle.desk_spec.specs.Floats.{float_of, first_card}
use Rattle.desk_spec.specs.Sights.{SightedSays}

-- text is what an answer prints that is promised
pub record AnswerShows {A : Type 0} (P : A → Type 0) (print : A → List ℕ) (text : List ℕ) : Type 0 where
  pub answer : A
  pub says : P answer
  pub is : text ≡ print answer

-- an output of n bytes
abbrev pub blank : ℕ → List ℕ
blank n = replicate n 0

-- ---- steps

-- to the next of a kind, with the moves
abbrev pub KindPrints : (List ℕ → Bool) → ℕ → List ℕ → List ℕ → Type 0
KindPrints kind k w text = AnswerShows {A = Result Outcome Refusal × List ℕ} (λ x. StepFromSays kind w k (blank (length w)) x.0 x.1) (λ x. step_text x.0 x.1) text

abbrev pub StepPrints : Step → ℕ → List ℕ → List ℕ → Type 0
StepPrints Necklace k w text = KindPrints necklace k w text
StepPrints Lyndon k w text = KindPrints lyndon k w text
StepPrints Prenecklace k w text = KindPrints prenecklace k w text
StepPrints Bracelet k w text = AnswerShows {A = Result Arrival Refusal × List ℕ} (λ x. BraceletFromSays w k (blank (length w)) x.0 x.1) (λ x. arrival_text x.0 x.1) text

-- ---- one reading

abbrev pub AboutSays : About → ℕ → List ℕ → List ℕ → Type 0
AboutSays Class k w text = AnswerShows (λ a. ClassifySays w k a) class_text text
AboutSays Home k w text = AnswerShows {A = Result Homed Refusal × List ℕ} (λ x. HomeSays w k (blank (length w)) x.0 x.1) (λ x. home_text x.0 x.1) text
AboutSays Even k w text = AnswerShows (λ a. ToldSays (one_reading w k) (even_handed w) a) told_text text
AboutSays Place k w text = AnswerShows (λ a. PlaceSays w k a) place_text text
AboutSays (OfOne.Step v) k w text = StepPrints v k w text

-- ---- two readings

abbrev pub BothSays : Both → ℕ → List ℕ → List ℕ → List ℕ → Type 0
BothSays Same k a b text = AnswerShows (λ r. ToldSays (two_readings a b k) (same_ring a b) r) told_text text
BothSays Apart k a b text = AnswerShows (λ r. DistanceSays a b k r) distance_text text

-- ---- numbers

abbrev pub ManySays : ℕ → ℕ → List ℕ → Type 0
ManySays k n text = AnswerShows {A = Result ℕ Refusal × Result ℕ Refusal} (λ x. CountSays necklace k n x.0 × CountSays lyndon k n x.1) (λ x. many_text x.0 x.1) text

abbrev pub StripPrints : ℕ → ℕ → List ℕ → Type 0
StripPrints k n text = AnswerShows {A = Result Unit Refusal × List ℕ} (λ x. StripSays n k (blank (k ^ n)) x.0 x.1) (λ x. strip_text x.0 x.1) text

-- ---- a reading among rings

abbrev pub SeenSays : ℕ → ℕ → List (List ℕ) → List ℕ → List ℕ → Type 0
SeenSays k e ts r text = AnswerShows (λ a. SightedSays ts r k e a) sight_text text

-- ---- counts

abbrev pub FirstPrints : ℕ → List ℕ → List ℕ → Type 0
FirstPrints k cs text = AnswerShows {A = Result Unit Refusal × List ℕ} (λ x. FirstSays k cs (blank (sum_of cs)) x.0 x.1) (λ x. first_ring_text x.0 x.1) text

abbrev pub AfterPrints : ℕ → List ℕ → List ℕ → List ℕ → Type 0
AfterPrints k w cs text = AnswerShows {A = Result Next Refusal × List ℕ} (λ x. NextSays w k cs (blank (length w)) x.0 x.1) (λ x. next_ring_text x.0 x.1) text

-- ---- shades

-- behind the two floats of the card: one value is a sector's, and several are a ring's
pub data ShadesSays (k : ℕ) (xs : List Float) (text : List ℕ) : Type 0 where
  one_value : length xs ≡ 3 → AnswerShows (λ a. SectorSays (get_or xs 2 nan) k (first_card xs) a) sector_text text → ShadesSays k xs text
  several_values : 3 < length xs →
      AnswerShows {A = Result Unit Refusal × List ℕ} (λ a. RingSays (drop 2 xs) k (first_card xs) (blank (length (drop 2 xs))) a.0 a.1) (λ a. shades_text a.0 a.1) text → ShadesSays k xs text

-- ---- a line

abbrev pub VerbSays : Verb → List ℕ → List ℕ → Type 0
VerbSays (Asks.About v) t text = Replies (ReadsReading t) (λ q. AboutSays v q.0 q.1) text
VerbSays (Asks.Both v) t text = Replies (ReadsPair t) (λ q. BothSays v q.0 q.1 q.2) text
VerbSays Asks.Many t text = Replies (ReadsNumbers t) (λ q. ManySays q.0 q.1) text
VerbSays Asks.Stock t text = Replies (ReadsByte t) (λ b x. x ≡ stock_text (home_byte b)) text
VerbSays Asks.Strip t text = Replies (ReadsNumbers t) (λ q. StripPrints q.0 q.1) text
VerbSays Asks.Sight t text = Replies (ReadsSight t) (λ q. SeenSays q.0 q.1 q.2 q.3) text
VerbSays Asks.First t text = Replies (ReadsCounts t) (λ q. FirstPrints q.0 q.1) text
VerbSays Asks.After t text = Replies (ReadsAfter t) (λ q. AfterPrints q.0 q.1 q.2) text
VerbSays Asks.Shade t text = Replies (ReadsShade t) (λ q. ShadesSays q.0 (map float_of q.1)) text

abbrev pub longest_line : ℕ
longest_line = 4095

-- a verb, and what stands behind its word: a word ends at the first space
pub record LineReads (s : List ℕ) (q : Verb × List ℕ) : Type 0 where
  pub within : length s ≤ longest_line
  pub at : ℕ
  pub ends : PieceAt space s at
  pub inside : at < length s
  pub verb : verb_of (take at s) ≡ Some q.0
  pub behind : q.1 ≡ drop (at + 1) s

abbrev pub DeskAnswers : List ℕ → List ℕ → Type 0
DeskAnswers s text = Replies (LineReads s) (λ q. VerbSays q.0 q.1) text
