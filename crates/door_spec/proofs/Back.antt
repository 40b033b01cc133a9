-- Nothing of an answer is lost in its numbers: from them the answer is read back.
--     refusal_of x p          the refusal of a number and a place; `refusal-back`: that of a refusal's own is itself
--     good, good_class, ..    the answer of a form that is no refusal
--     back                   an answer of numbers read back: its refusal, or what it answers
--     NAME-back              read back, the form of an answer is that answer
use Rattle.std.specs.Prelude.{Option, None, Some, Result, Ok, Err}
use Rattle.words.proofs.Plain.{ℕ, ◌≡◌, refl, ap, Bool, true, false, [], ◌∷◌, eqb, get_or}
use Rattle.refusal.specs.{declared.Refusal.Refusal, Numbers.number_of, Numbers.place_of}
use Rattle.refusal.specs.declared.Refusal.TheVariants.{Length, Shades, Sector, Room, OffWalk, Counts, Cut, Mark, NotHome, Pair, Line, TooMany, Set, Card, Unreadable, Retired, Padding}
use Rattle.rings.specs.declared.Class.{Class}
use Rattle.rings.specs.declared.Class.TheVariants.{Loose, Opening, Repeating, Single}
use Rattle.home_spec.specs.{declared.Home.Home, declared.Nearest.Nearest}
use Rattle.sight_spec.specs.declared.Sighting.{Sighting}
use Rattle.sight_spec.specs.declared.Sighting.TheVariants as Y
use Rattle.walk_spec.specs.declared.Outcome.{Outcome}
use Rattle.walk_spec.specs.declared.Outcome.TheVariants as O
use Rattle.walk_bracelet_spec.specs.declared.Arrival.{Arrival}
use Rattle.walk_bracelet_spec.specs.declared.Arrival.TheVariants as B
use Rattle.shades_spec.specs.declared.Next.{Next}
use Rattle.shades_spec.specs.declared.Next.TheVariants as X
use Rattle.record_spec.specs.{declared.Kind.Kind, declared.Kind.TheVariants.Front, declared.Kind.TheVariants.Packed, declared.Record.Record}
use Rattle.density_spec.specs.declared.Sector.{Sector as Reflectance}
use Rattle.density_spec.specs.declared.Sector.TheVariants.{Shade, Outside, NotANumber}
use Rattle.door_spec.specs.{declared.RingsSighting.RingsSighting}
use Rattle.door_spec.specs.{declared.RingsRecord.RingsRecord, declared.RingsSector.RingsSector, declared.Laid.Laid}
use Rattle.door_spec.specs.Flat.{flat_number, flat_done, flat_told, flat_distance, flat_arrival, flat_first, flat_next, flat_written, flat_conversion, flat_ring_read, flat_strip}
use Rattle.door_spec.specs.Flat.{flat_position, flat_counted, class_number, class_value, flat_classified, flat_homed, flat_closest, flat_sighting, flat_outcome}
use Rattle.door_spec.specs.Flat.{flat_entry, flat_sector_read, full_number, flat_laid}

-- ---- refusals

-- by their numbers, from 1 on; nothing is refused by 0
abbrev pub refusal_of : ℕ → ℕ → Refusal
refusal_of x p =
    get_or (Line ∷ Length p ∷ Shades p ∷ Sector p ∷ Room ∷ OffWalk p ∷ Counts ∷ Cut p ∷ Mark p ∷ NotHome p ∷ Pair ∷ Line ∷ TooMany ∷ Set ∷ Card ∷ Unreadable p ∷ Retired p ∷ Padding p ∷ []) x Line

-- an answer of numbers read back: a refusal where its first number is not 0, else what is answered
abbrev pub back : {A : Type 0} → (Refusal → A) → A → ℕ → ℕ → A
back bad good x p = elim (eqb x 0) [ true ↦ good | false ↦ bad (refusal_of x p) ]

pub refusal-back : {A : Type 0} (bad : Refusal → A) (good : A) (r : Refusal) → back bad good (number_of r) (place_of r) ≡ bad r
refusal-back bad good (Length p) = refl
refusal-back bad good (Shades p) = refl
refusal-back bad good (Sector p) = refl
refusal-back bad good Room = refl
refusal-back bad good (OffWalk p) = refl
refusal-back bad good Counts = refl
refusal-back bad good (Cut p) = refl
refusal-back bad good (Mark p) = refl
refusal-back bad good (NotHome p) = refl
refusal-back bad good Pair = refl
refusal-back bad good Line = refl
refusal-back bad good TooMany = refl
refusal-back bad good Set = refl
refusal-back bad good Card = refl
refusal-back bad good (Unreadable p) = refl
refusal-back bad good (Retired p) = refl
refusal-back bad good (Padding p) = refl

-- ---- answers of one number

-- the number 0 tells the one, any other the other
abbrev pub either : {A : Type 0} → A → A → ℕ → A
either a b x = elim (eqb x 0) [ true ↦ a | false ↦ b ]

number-back : (a : Result ℕ Refusal) → back Err (Ok (flat_number a).value) (flat_number a).refused (flat_number a).place ≡ a
number-back (Ok x) = refl
number-back (Err r) = refusal-back Err (Ok 0) r

done-back : (a : Result Unit Refusal) → back Err (Ok tt) (flat_done a).refused (flat_done a).place ≡ a
done-back (Ok _) = refl
done-back (Err r) = refusal-back Err (Ok tt) r

pub told_back : (a : Result Bool Refusal) → back Err (either (Ok false) (Ok true) (flat_told a).value) (flat_told a).refused (flat_told a).place ≡ a
told_back (Ok true) = refl
told_back (Ok false) = refl
told_back (Err r) = refusal-back Err (Ok false) r

pub distance_back : (a : Result ℕ Refusal) → back Err (Ok (flat_distance a).value) (flat_distance a).refused (flat_distance a).place ≡ a
distance_back = number-back

pub arrival-back : (a : Result Arrival Refusal) → back Err (either (Ok B.Done) (Ok B.Moved) (flat_arrival a).value) (flat_arrival a).refused (flat_arrival a).place ≡ a
arrival-back (Ok B.Moved) = refl
arrival-back (Ok B.Done) = refl
arrival-back (Err r) = refusal-back Err (Ok B.Done) r

pub first_back : (a : Result Unit Refusal) → back Err (Ok tt) (flat_first a).refused (flat_first a).place ≡ a
first_back = done-back

pub next-back : (a : Result Next Refusal) → back Err (either (Ok X.Done) (Ok X.Ring) (flat_next a).value) (flat_next a).refused (flat_next a).place ≡ a
next-back (Ok X.Ring) = refl
next-back (Ok X.Done) = refl
next-back (Err r) = refusal-back Err (Ok X.Done) r

pub written_back : (a : Result ℕ Refusal) → back Err (Ok (flat_written a).value) (flat_written a).refused (flat_written a).place ≡ a
written_back = number-back

pub conversion-back : (a : Result Unit Refusal) → back Err (Ok tt) (flat_conversion a).refused (flat_conversion a).place ≡ a
conversion-back = done-back

pub ring-read-back : (a : Result Unit Refusal) → back Err (Ok tt) (flat_ring_read a).refused (flat_ring_read a).place ≡ a
ring-read-back = done-back

pub strip-back : (a : Result Unit Refusal) → back Err (Ok tt) (flat_strip a).refused (flat_strip a).place ≡ a
strip-back = done-back

pub position-back : (a : Result ℕ Refusal) → back Err (Ok (flat_position a).value) (flat_position a).refused (flat_position a).place ≡ a
position-back = number-back

pub counted_back : (a : Result ℕ Refusal) → back Err (Ok (flat_counted a).value) (flat_counted a).refused (flat_counted a).place ≡ a
counted_back = number-back

-- ---- answers of several numbers

abbrev pub class_of_numbers : ℕ → ℕ → Class
class_of_numbers x p = get_or (Single ∷ Loose p ∷ Opening p ∷ Repeating p ∷ []) x Single

class_back : (c : Class) → class_of_numbers (class_number c) (class_value c) ≡ c
class_back (Loose p) = refl
class_back (Opening p) = refl
class_back (Repeating p) = refl
class_back Single = refl

pub classified-back : (a : Result Class Refusal) → back Err (Ok (class_of_numbers (flat_classified a).kind (flat_classified a).value)) (flat_classified a).refused (flat_classified a).place ≡ a
classified-back (Ok c) = ap Ok (class_back c)
classified-back (Err r) = refusal-back Err (Ok Single) r

pub homed-back : (a : Result Home Refusal) →
    back Err (Ok (record { shift = (flat_homed a).shift; period = (flat_homed a).period })) (flat_homed a).refused (flat_homed a).place ≡ a
homed-back (Ok h) = refl
homed-back (Err r) = refusal-back Err (Ok (record { shift = 0; period = 0 })) r

pub closest-back : (a : Result Nearest Refusal) →
    back Err (Ok (record { distance = (flat_closest a).distance; shift = (flat_closest a).shift })) (flat_closest a).refused (flat_closest a).place ≡ a
closest-back (Ok x) = refl
closest-back (Err r) = refusal-back Err (Ok (record { distance = 0; shift = 0 })) r

abbrev pub sighting_of : RingsSighting → Sighting
sighting_of r = get_or (Y.Unknown ∷ Y.Front r.target r.shift r.misread ∷ Y.Back r.target r.shift r.misread ∷ Y.Several ∷ []) r.kind Y.Unknown

pub sighting-back : (a : Result Sighting Refusal) → back Err (Ok (sighting_of (flat_sighting a))) (flat_sighting a).refused (flat_sighting a).place ≡ a
sighting-back (Ok (Y.Front t i x)) = refl
sighting-back (Ok (Y.Back t i x)) = refl
sighting-back (Ok Y.Several) = refl
sighting-back (Ok Y.Unknown) = refl
sighting-back (Err r) = refusal-back Err (Ok Y.Unknown) r

pub outcome-back : (a : Result Outcome Refusal) →
    back Err (either (Ok (O.Done (flat_outcome a).moves)) (Ok (O.Moved (flat_outcome a).moves)) (flat_outcome a).moved) (flat_outcome a).refused (flat_outcome a).place ≡ a
outcome-back (Ok (O.Moved m)) = refl
outcome-back (Ok (O.Done m)) = refl
outcome-back (Err r) = refusal-back Err (Ok (O.Done 0)) r

abbrev pub entry_of : RingsRecord → Option Record
entry_of r =
    get_or (None ∷ Some (record { n = r.n; k = r.k; kind = Front; next = r.next }) ∷ Some (record { n = r.n; k = r.k; kind = Packed; next = r.next }) ∷ []) r.kind None

entry-kind : (n k next : ℕ) (x : Kind) → entry_of (flat_entry (Ok (Some (record { n = n; k = k; kind = x; next = next })))) ≡ Some (record { n = n; k = k; kind = x; next = next })
entry-kind n k next Front = refl
entry-kind n k next Packed = refl

pub entry-back : (a : Result (Option Record) Refusal) → back Err (Ok (entry_of (flat_entry a))) (flat_entry a).refused (flat_entry a).place ≡ a
entry-back (Ok (Some e)) = ap Ok (entry-kind e.n e.k e.next e.kind)
entry-back (Ok None) = refl
entry-back (Err r) = refusal-back Err (Ok None) r

abbrev pub sector_of : RingsSector → Reflectance
sector_of r = get_or (NotANumber ∷ Shade r.shade ∷ Outside r.outside ∷ []) r.kind NotANumber

pub sector-back : (a : Result Reflectance Refusal) → back Err (Ok (sector_of (flat_sector_read a))) (flat_sector_read a).refused (flat_sector_read a).place ≡ a
sector-back (Ok (Shade x)) = refl
sector-back (Ok (Outside x)) = refl
sector-back (Ok NotANumber) = refl
sector-back (Err r) = refusal-back Err (Ok NotANumber) r

full-back : (f : Bool) → either false true (full_number f) ≡ f
full-back true = refl
full-back false = refl

pub laid-back : (a : Result Laid Refusal) →
    back Err (Ok (record { taken = (flat_laid a).taken; full = either false true (flat_laid a).full })) (flat_laid a).refused (flat_laid a).place ≡ a
laid-back (Ok s) = λ i. Ok (record { taken = s.taken; full = full-back s.full i })
laid-back (Err r) = refusal-back Err (Ok (record { taken = 0; full = false })) r
