-- Where a call has one answer, so it has in numbers, and so has every function of the door.
--     one-flat          a call without an output
--     one-flat-out      a call with one
--     one-laid          a set that is written to an output
--     one-c-NAME        the function rings_NAME
use Rattle.std.specs.Prelude.{Result, Ok, Err}
use Rattle.words.proofs.Plain.{ℕ, ◌≡◌, sym, ap, ◌∙◌, Bool, List, length}
use lib.Ieee.{Float}
use Rattle.rings.specs.Alike.{even_handed, same_ring}
use Rattle.refusal.specs.{declared.Refusal.Refusal, Order.Given, Calls.one_reading, Calls.two_readings}
use Rattle.refusal.proofs.Unique.{one-refusal, never_both}
use Rattle.classify_spec.specs.Says.{ClassifySays}
use Rattle.classify_spec.proofs.Unique.{one_answer}
use Rattle.home_spec.specs.Says.{HomeSays, ToldSays, DistanceSays, ClosestSays}
use Rattle.home_spec.proofs.Unique.{one-homed, one_told, one-distance, one-closest}
use Rattle.sight_spec.specs.Says.{SightSays}
use Rattle.sight_spec.proofs.Unique.{one-sight}
use Rattle.walk_reading_spec.specs.Says.{StepFromSays, BraceletFromSays}
use Rattle.walk_reading_spec.proofs.Unique.{one-step-from, one-bracelet-from}
use Rattle.shades_spec.specs.Answers.{FirstSays, NextSays}
use Rattle.shades_spec.proofs.Unique.{one-first, one-next}
use Rattle.record_spec.specs.{declared.Kind.Kind, Says.ReadSays, Writes.WriteSays}
use Rattle.record_spec.proofs.{Unique.one-read, Wrote.one-write}
use Rattle.converter_spec.specs.Converts.{ConvertSays}
use Rattle.converter_spec.proofs.Unique.{one-convert}
use Rattle.density_spec.specs.Says.{SectorSays, RingSays}
use Rattle.density_spec.proofs.Unique.{one-sector, one-ring}
use Rattle.strip_spec.specs.Says.{StripSays, PlaceSays}
use Rattle.strip_spec.proofs.Unique.{one-writing, one-telling}
use Rattle.how_many_spec.specs.Says.{CountSays}
use Rattle.how_many_spec.proofs.Unique.{one-count}
use Rattle.set_pick_spec.specs.Order.{Askable}
use Rattle.set_pick_spec.proofs.Unique.{askable-passed}
use Rattle.door_spec.specs.{declared.RingsAnswer.RingsAnswer, declared.RingsClass.RingsClass, declared.RingsHome.RingsHome}
use Rattle.door_spec.specs.{declared.RingsNearest.RingsNearest, declared.RingsSighting.RingsSighting}
use Rattle.door_spec.specs.{declared.RingsStep.RingsStep, declared.RingsRecord.RingsRecord}
use Rattle.door_spec.specs.{declared.RingsSector.RingsSector, declared.RingsSet.RingsSet, declared.Laid.Laid}
use Rattle.door_spec.specs.Flat.{Flat, flat_told, flat_distance, flat_arrival, flat_first, flat_next, flat_written, flat_conversion, flat_ring_read, flat_strip, flat_position, flat_counted}
use Rattle.door_spec.specs.Flat.{flat_classified, flat_homed, flat_closest, flat_sighting, flat_outcome, flat_entry, card_of, flat_sector_read, flat_laid}
use Rattle.door_spec.specs.Sets.{lay_order, LaidSays}

-- a call without an output
pub one-flat : {A F : Type 0} (P : A → Type 0) (f : A → F) → ((a b : A) → P a → P b → a ≡ b) → (r q : F) → Flat P f r → Flat P f q → r ≡ q
one-flat P f one r q x y = x.same ∙ ap f (one x.answer y.answer x.says y.says) ∙ sym y.same

-- a call with an output, which holds u after the one answer and v after the other
pub one-flat-out : {A F : Type 0} (P : A → List ℕ → Type 0) (f : A → F) → ((a b : A) (u v : List ℕ) → P a u → P b v → (a ≡ b) × (u ≡ v)) →
    (u v : List ℕ) (r q : F) → Flat (λ a. P a u) f r → Flat (λ a. P a v) f q → (r ≡ q) × (u ≡ v)
one-flat-out P f one u v r q x y =
    let e = one x.answer y.answer u v x.says y.says in
    (x.same ∙ ap f e.0 ∙ sym y.same, e.1)

-- ---- a set that is written to an output

same-laid : (a b : Laid) → a.taken ≡ b.taken → a.full ≡ b.full → a ≡ b
same-laid a b e h = λ i. record { taken = e i; full = h i }

module _ (n k d want : ℕ) (ts : List (List ℕ)) (o : List ℕ) where
  passes : length o ≡ 768 → Askable n k d want → (r : Refusal) → Given (lay_order n k d want (length o)) r → ⊥
  passes l asked r g = never_both (lay_order n k d want (length o)) r g (l, askable-passed n k d want asked)

  pub one-laid : (a b : Result Laid Refusal) (u v : List ℕ) → LaidSays n k d want ts o a u → LaidSays n k d want ts o b v → (a ≡ b) × (u ≡ v)
  one-laid (Ok a) (Ok b) u v x y =
      let p = x.1 in
      let q = y.1 in
      let e : a.taken ≡ b.taken = p.number ∙ sym q.number in
      let h : a.full ≡ b.full = p.full ∙ sym q.full in
      (ap Ok (same-laid a b e h), p.places ∙ sym q.places)
  one-laid (Ok a) (Err r) u v x y = absurd (passes x.0 x.1.asked r y.0)
  one-laid (Err r) (Ok b) u v x y = absurd (passes y.0 y.1.asked r x.0)
  one-laid (Err r) (Err q) u v x y = (ap Err (one-refusal (lay_order n k d want (length o)) r q x.0 y.0), x.1 ∙ sym y.1)

-- ---- the functions

module _ (w : List ℕ) (k : ℕ) where
  pub one-c-classify : (r q : RingsClass) → Flat (ClassifySays w k) flat_classified r → Flat (ClassifySays w k) flat_classified q → r ≡ q
  one-c-classify = one-flat (ClassifySays w k) flat_classified (one_answer w k)

  pub one-c-even-handed : (r q : RingsAnswer) → Flat (ToldSays (one_reading w k) (even_handed w)) flat_told r → Flat (ToldSays (one_reading w k) (even_handed w)) flat_told q → r ≡ q
  one-c-even-handed = one-flat (ToldSays (one_reading w k) (even_handed w)) flat_told (one_told (one_reading w k) (even_handed w))

  pub one-c-place : (r q : RingsAnswer) → Flat (PlaceSays w k) flat_position r → Flat (PlaceSays w k) flat_position q → r ≡ q
  one-c-place = one-flat (PlaceSays w k) flat_position (one-telling w k)

module _ (v w : List ℕ) (k : ℕ) where
  pub one-c-same : (r q : RingsAnswer) → Flat (ToldSays (two_readings v w k) (same_ring v w)) flat_told r → Flat (ToldSays (two_readings v w k) (same_ring v w)) flat_told q → r ≡ q
  one-c-same = one-flat (ToldSays (two_readings v w k) (same_ring v w)) flat_told (one_told (two_readings v w k) (same_ring v w))

  pub one-c-apart : (r q : RingsAnswer) → Flat (DistanceSays v w k) flat_distance r → Flat (DistanceSays v w k) flat_distance q → r ≡ q
  one-c-apart = one-flat (DistanceSays v w k) flat_distance (one-distance v w k)

  pub one-c-nearest : (r q : RingsNearest) → Flat (ClosestSays v w k) flat_closest r → Flat (ClosestSays v w k) flat_closest q → r ≡ q
  one-c-nearest = one-flat (ClosestSays v w k) flat_closest (one-closest v w k)

module _ (w : List ℕ) (k : ℕ) (o u v : List ℕ) where
  pub one-c-home : (r q : RingsHome) → Flat (λ a. HomeSays w k o a u) flat_homed r → Flat (λ a. HomeSays w k o a v) flat_homed q → (r ≡ q) × (u ≡ v)
  one-c-home = one-flat-out (HomeSays w k o) flat_homed (one-homed w k o) u v

  -- the steps by prenecklaces, necklaces and Lyndon words, whichever the kind is
  pub one-c-next-kind : (kind : List ℕ → Bool) (r q : RingsStep) → Flat (λ a. StepFromSays kind w k o a u) flat_outcome r → Flat (λ a. StepFromSays kind w k o a v) flat_outcome q → (r ≡ q) × (u ≡ v)
  one-c-next-kind kind = one-flat-out (StepFromSays kind w k o) flat_outcome (one-step-from kind w k o) u v

  pub one-c-next-bracelet : (r q : RingsAnswer) → Flat (λ a. BraceletFromSays w k o a u) flat_arrival r → Flat (λ a. BraceletFromSays w k o a v) flat_arrival q → (r ≡ q) × (u ≡ v)
  one-c-next-bracelet = one-flat-out (BraceletFromSays w k o) flat_arrival (one-bracelet-from w k o) u v

  pub one-c-next-ring : (cs : List ℕ) (r q : RingsAnswer) → Flat (λ a. NextSays w k cs o a u) flat_next r → Flat (λ a. NextSays w k cs o a v) flat_next q → (r ≡ q) × (u ≡ v)
  one-c-next-ring cs = one-flat-out (NextSays w k cs o) flat_next (one-next w k cs o) u v

  -- both forms
  pub one-c-write : (x : Kind) (p : ℕ) (r q : RingsAnswer) → Flat (λ a. WriteSays w k x o p a u) flat_written r → Flat (λ a. WriteSays w k x o p a v) flat_written q → (r ≡ q) × (u ≡ v)
  one-c-write x p = one-flat-out (WriteSays w k x o p) flat_written (one-write w k x o p) u v

module _ (o u v : List ℕ) where
  pub one-c-first-ring : (k : ℕ) (cs : List ℕ) (r q : RingsAnswer) → Flat (λ a. FirstSays k cs o a u) flat_first r → Flat (λ a. FirstSays k cs o a v) flat_first q → (r ≡ q) × (u ≡ v)
  one-c-first-ring k cs = one-flat-out (FirstSays k cs o) flat_first (one-first k cs o) u v

  pub one-c-read-record : (c : List ℕ) (s : ℕ) (r q : RingsRecord) → Flat (λ a. ReadSays c s o a u) flat_entry r → Flat (λ a. ReadSays c s o a v) flat_entry q → (r ≡ q) × (u ≡ v)
  one-c-read-record c s = one-flat-out (ReadSays c s o) flat_entry (one-read c s o) u v

  pub one-c-convert : (c : List ℕ) (r q : RingsAnswer) → Flat (λ a. ConvertSays c o a u) flat_conversion r → Flat (λ a. ConvertSays c o a v) flat_conversion q → (r ≡ q) × (u ≡ v)
  one-c-convert c = one-flat-out (ConvertSays c o) flat_conversion (one-convert c o) u v

  pub one-c-ring-shades : (xs : List Float) (k : ℕ) (d l : Float) (r q : RingsAnswer) →
      Flat (λ a. RingSays xs k (card_of d l) o a u) flat_ring_read r → Flat (λ a. RingSays xs k (card_of d l) o a v) flat_ring_read q → (r ≡ q) × (u ≡ v)
  one-c-ring-shades xs k d l = one-flat-out (RingSays xs k (card_of d l) o) flat_ring_read (one-ring xs k (card_of d l) o) u v

  pub one-c-strip : (n k : ℕ) (r q : RingsAnswer) → Flat (λ a. StripSays n k o a u) flat_strip r → Flat (λ a. StripSays n k o a v) flat_strip q → (r ≡ q) × (u ≡ v)
  one-c-strip n k = one-flat-out (StripSays n k o) flat_strip (one-writing n k o) u v

  -- the set of a job and the guarded one, whichever the set is to be
  pub one-c-pick : (n k d want : ℕ) (ts : List (List ℕ)) (r q : RingsSet) →
      Flat (λ a. LaidSays n k d want ts o a u) flat_laid r → Flat (λ a. LaidSays n k d want ts o a v) flat_laid q → (r ≡ q) × (u ≡ v)
  one-c-pick n k d want ts = one-flat-out (LaidSays n k d want ts o) flat_laid (one-laid n k d want ts o) u v

pub one-c-sight : (rs w : List ℕ) (k e : ℕ) (r q : RingsSighting) → Flat (SightSays rs w k e) flat_sighting r → Flat (SightSays rs w k e) flat_sighting q → r ≡ q
one-c-sight rs w k e = one-flat (SightSays rs w k e) flat_sighting (one-sight rs w k e)

pub one-c-sector-shade : (x : Float) (k : ℕ) (d l : Float) (r q : RingsSector) → Flat (SectorSays x k (card_of d l)) flat_sector_read r → Flat (SectorSays x k (card_of d l)) flat_sector_read q → r ≡ q
one-c-sector-shade x k d l = one-flat (SectorSays x k (card_of d l)) flat_sector_read (one-sector x k (card_of d l))

-- necklaces and Lyndon words, whichever the kind is
pub one-c-how-many : (kind : List ℕ → Bool) (k n : ℕ) (r q : RingsAnswer) → Flat (CountSays kind k n) flat_counted r → Flat (CountSays kind k n) flat_counted q → r ≡ q
one-c-how-many kind k n = one-flat (CountSays kind k n) flat_counted (one-count kind k n)
