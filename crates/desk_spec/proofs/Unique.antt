-- A line prints one text.
--     one-shows       an answer that is promised once prints one text
--     one-asked       where a text asks one question, and a question prints one text, the text prints one
--     one-stepped, one-step, one-about, one-both, one-many, one-strip, one_seen, one-first, one-after-ring, one-shades    a question prints one text
--     one-verb        and so does what stands behind a verb
--     one_answer      and a line
use Rattle.words.proofs.Plain.{ℕ, ◌^◌, arith, ◌≡◌, sym, ap, ◌∙◌, Bool, List, length}
use lib.Ieee.{Float}
use Rattle.rings.specs.Necklace.{necklace, lyndon}
use Rattle.classify_spec.proofs.Unique.{one_answer as one_class}
use Rattle.std.specs.Prelude.{Result}
use Rattle.refusal.specs.declared.Refusal.{Refusal}
use Rattle.home_spec.specs.declared.Home.{Home as Homed}
use Rattle.home_spec.proofs.Unique.{one-homed, one_told, one-distance}
use Rattle.strip_spec.proofs.Unique.{one-telling, one-writing}
use Rattle.how_many_spec.proofs.Unique.{one-count}
use Rattle.walk_spec.specs.declared.Outcome.{Outcome}
use Rattle.walk_bracelet_spec.specs.declared.Arrival.{Arrival}
use Rattle.walk_reading_spec.proofs.Unique.{one-step-from, one-bracelet-from}
use Rattle.shades_spec.specs.declared.Next.{Next}
use Rattle.shades_spec.proofs.Unique.{one-first as one-first-ring, one-next}
use Rattle.desk_spec.specs.{declared.Step.Step, declared.About.About, declared.Both.Both}
use Rattle.desk_spec.specs.declared.Step.TheVariants.{Necklace, Lyndon, Prenecklace, Bracelet}
use Rattle.density_spec.proofs.Unique.{one-sector, one-ring}
use Rattle.desk_spec.specs.declared.About.TheVariants.{Class, Home, Even, Place}
use Rattle.desk_spec.specs.declared.About.TheVariants as OfOne
use Rattle.desk_spec.specs.{declared.Both.TheVariants.Same, declared.Both.TheVariants.Apart, declared.Verb.Verb}
use Rattle.desk_spec.specs.declared.Verb.TheVariants as Asks
use Rattle.desk_spec.specs.Questions.{Replies, good, bad}
use Rattle.desk_spec.specs.Answers.{AnswerShows, KindPrints, StepPrints, AboutSays, BothSays, ManySays, StripPrints, SeenSays, FirstPrints, AfterPrints, VerbSays}
use Rattle.desk_spec.specs.Answers.{DeskAnswers, blank, ShadesSays, one_value, several_values}
use Rattle.desk_spec.proofs.Questions.{one-reading, one-pair, one-numbers, one_byte, one-sight, one-counts, one-after, one_line, one-shade}
use Rattle.desk_spec.proofs.Sights.{one-sighted}
use Rattle.refusal.specs.Calls.{one_reading}
use Rattle.refusal.specs.Calls.{two_readings}
use Rattle.rings.specs.Alike.{even_handed}
use Rattle.rings.specs.Alike.{same_ring}

-- an answer that is promised once
pub one-shows : {A : Type 0} (P : A → Type 0) (f : A → List ℕ) → ((a b : A) → P a → P b → a ≡ b) → (t u : List ℕ) → AnswerShows P f t → AnswerShows P f u → t ≡ u
one-shows P f one t u x y = x.is ∙ ap f (one x.answer y.answer x.says y.says) ∙ sym y.is

-- a question that is asked once, and prints one text
pub one-asked : {Q : Type 0} (Reads : Q → Type 0) (Says : Q → List ℕ → Type 0) → ((p q : Q) → Reads p → Reads q → p ≡ q) →
    ((q : Q) (t u : List ℕ) → Says q t → Says q u → t ≡ u) → (t u : List ℕ) → Replies Reads Says t → Replies Reads Says u → t ≡ u
one-asked Reads Says one says t u (good p a x) (good q b y) = says q t u (rw (one p q a b) at x) y
one-asked Reads Says one says t u (good p a x) (bad n y) = absurd (n p a)
one-asked Reads Says one says t u (bad m x) (good q b y) = absurd (m q b)
one-asked Reads Says one says t u (bad m x) (bad n y) = x ∙ sym y

-- ---- questions

pub one-stepped : (kind : List ℕ → Bool) (k : ℕ) (w t u : List ℕ) → KindPrints kind k w t → KindPrints kind k w u → t ≡ u
one-stepped kind k w t u x y =
    one-shows {A = Result Outcome Refusal × List ℕ} _ _ (λ a b p q. let e = one-step-from kind w k (blank (length w)) a.0 b.0 a.1 b.1 p q in λ i. (e.0 i, e.1 i)) t u x y

pub one-step : (v : Step) (k : ℕ) (w t u : List ℕ) → StepPrints v k w t → StepPrints v k w u → t ≡ u
one-step Necklace k w t u x y = one-stepped _ k w t u x y
one-step Lyndon k w t u x y = one-stepped _ k w t u x y
one-step Prenecklace k w t u x y = one-stepped _ k w t u x y
one-step Bracelet k w t u x y =
    one-shows {A = Result Arrival Refusal × List ℕ} _ _ (λ a b p q. let e = one-bracelet-from w k (blank (length w)) a.0 b.0 a.1 b.1 p q in λ i. (e.0 i, e.1 i)) t u x y

pub one-about : (v : About) (k : ℕ) (w t u : List ℕ) → AboutSays v k w t → AboutSays v k w u → t ≡ u
one-about Class k w t u x y = one-shows _ _ (one_class w k) t u x y
one-about Home k w t u x y =
    one-shows {A = Result Homed Refusal × List ℕ} _ _ (λ a b p q. let e = one-homed w k (blank (length w)) a.0 b.0 a.1 b.1 p q in λ i. (e.0 i, e.1 i)) t u x y
one-about Even k w t u x y = one-shows _ _ (one_told (one_reading w k) (even_handed w)) t u x y
one-about Place k w t u x y = one-shows _ _ (one-telling w k) t u x y
one-about (OfOne.Step v) k w t u x y = one-step v k w t u x y

pub one-both : (v : Both) (k : ℕ) (a b t u : List ℕ) → BothSays v k a b t → BothSays v k a b u → t ≡ u
one-both Same k a b t u x y = one-shows _ _ (one_told (two_readings a b k) (same_ring a b)) t u x y
one-both Apart k a b t u x y = one-shows _ _ (one-distance a b k) t u x y

-- ---- numbers

pub one-many : (k n : ℕ) (t u : List ℕ) → ManySays k n t → ManySays k n u → t ≡ u
one-many k n t u x y =
    one-shows {A = Result ℕ Refusal × Result ℕ Refusal} _ _
    (λ a b p q. let e = one-count necklace k n a.0 b.0 p.0 q.0 in let f = one-count lyndon k n a.1 b.1 p.1 q.1 in λ i. (e i, f i)) t u x y

pub one-strip : (k n : ℕ) (t u : List ℕ) → StripPrints k n t → StripPrints k n u → t ≡ u
one-strip k n t u x y =
    one-shows {A = Result Unit Refusal × List ℕ} _ _ (λ a b p q. let e = one-writing n k (blank (k ^ n)) a.0 b.0 a.1 b.1 p q in λ i. (e.0 i, e.1 i)) t u x y

-- ---- a reading among rings

pub one_seen : (k e : ℕ) (ts : List (List ℕ)) (r t u : List ℕ) → SeenSays k e ts r t → SeenSays k e ts r u → t ≡ u
one_seen k e ts r t u x y = one-shows _ _ (one-sighted ts r k e) t u x y

-- ---- counts

pub one-first : (k : ℕ) (cs t u : List ℕ) → FirstPrints k cs t → FirstPrints k cs u → t ≡ u
one-first k cs t u x y =
    one-shows {A = Result Unit Refusal × List ℕ} _ _ (λ a b p q. let e = one-first-ring k cs _ a.0 b.0 a.1 b.1 p q in λ i. (e.0 i, e.1 i)) t u x y

pub one-after-ring : (k : ℕ) (w cs t u : List ℕ) → AfterPrints k w cs t → AfterPrints k w cs u → t ≡ u
one-after-ring k w cs t u x y =
    one-shows {A = Result Next Refusal × List ℕ} _ _ (λ a b p q. let e = one-next w k cs (blank (length w)) a.0 b.0 a.1 b.1 p q in λ i. (e.0 i, e.1 i)) t u x y

-- ---- shades

pub one-shades : (k : ℕ) (xs : List Float) (t u : List ℕ) → ShadesSays k xs t → ShadesSays k xs u → t ≡ u
one-shades k xs t u (one_value l x) (one_value m y) = one-shows _ _ (one-sector _ k _) t u x y
one-shades k xs t u (one_value l x) (several_values m y) = absurd (omega arith)
one-shades k xs t u (several_values l x) (one_value m y) = absurd (omega arith)
one-shades k xs t u (several_values l x) (several_values m y) =
    one-shows {A = Result Unit Refusal × List ℕ} _ _ (λ a b p q. let e = one-ring _ k _ _ a.0 b.0 a.1 b.1 p q in λ i. (e.0 i, e.1 i)) t u x y

-- ---- a line

pub one-verb : (v : Verb) (s t u : List ℕ) → VerbSays v s t → VerbSays v s u → t ≡ u
one-verb (Asks.About v) s t u x y = one-asked _ _ (one-reading s) (λ q. one-about v q.0 q.1) t u x y
one-verb (Asks.Both v) s t u x y = one-asked _ _ (one-pair s) (λ q. one-both v q.0 q.1 q.2) t u x y
one-verb Asks.Many s t u x y = one-asked _ _ (one-numbers s) (λ q. one-many q.0 q.1) t u x y
one-verb Asks.Stock s t u x y = one-asked _ _ (one_byte s) (λ b a c p q. p ∙ sym q) t u x y
one-verb Asks.Strip s t u x y = one-asked _ _ (one-numbers s) (λ q. one-strip q.0 q.1) t u x y
one-verb Asks.Sight s t u x y = one-asked _ _ (one-sight s) (λ q. one_seen q.0 q.1 q.2 q.3) t u x y
one-verb Asks.First s t u x y = one-asked _ _ (one-counts s) (λ q. one-first q.0 q.1) t u x y
one-verb Asks.After s t u x y = one-asked _ _ (one-after s) (λ q. one-after-ring q.0 q.1 q.2) t u x y
one-verb Asks.Shade s t u x y = one-asked _ _ (one-shade s) (λ q. one-shades q.0 _) t u x y

pub one_answer : (s t u : List ℕ) → DeskAnswers s t → DeskAnswers s u → t ≡ u
one_answer s t u x y = one-asked _ _ (one_line s) (λ q. one-verb q.0 q.1) t u x y
