-- The answers of the calls as numbers, for programs in other languages.
--     Flat Says flat r             r is the form `flat` of an answer that the call promises: what every function of the door promises
--     answered x, refused_by r      an answer of one number, and a refusal
--     flat_number, flat_done        the form of a number, and of what is only done
--     flat_told, flat_homed, ..      the form of each type of answer: the refusal's number and place, 0 and 0 where it is none; behind them what is answered, 0 where it is refused
--     card_of d l                   a card by its two fields
-- That no two forms fit one call: proofs/Unique. That no answer is lost in its form: proofs/Back.
use Rattle.std.specs.Prelude.{ℕ, ◌≡◌, Bool, true, false, Float, Option, None, Some, Result, Ok, Err}
use Rattle.std.specs.Float.{binary32}
use Rattle.std.specs.Float.Ieee.{of_bits}
use Rattle.refusal.specs.declared.Refusal.{Refusal}
use Rattle.refusal.specs.Numbers.{number_of, place_of}
use Rattle.rings.specs.declared.Class.{Class}
use Rattle.rings.specs.declared.Class.TheVariants.{Loose, Opening, Repeating, Single}
use Rattle.home_spec.specs.declared.Home.{Home}
use Rattle.home_spec.specs.declared.Nearest.{Nearest}
use Rattle.sight_spec.specs.declared.Sighting.{Sighting}
use Rattle.sight_spec.specs.declared.Sighting.TheVariants as Y
use Rattle.walk_spec.specs.declared.Outcome.{Outcome}
use Rattle.walk_spec.specs.declared.Outcome.TheVariants as O
use Rattle.walk_bracelet_spec.specs.declared.Arrival.{Arrival}
use Rattle.walk_bracelet_spec.specs.declared.Arrival.TheVariants as B
use Rattle.shades_spec.specs.declared.Next.{Next}
use Rattle.shades_spec.specs.declared.Next.TheVariants as X
use Rattle.record_spec.specs.declared.Kind.{Kind}
use Rattle.record_spec.specs.declared.Kind.TheVariants.{Front, Packed}
use Rattle.record_spec.specs.declared.Record.{Record}
use Rattle.density_spec.specs.declared.Card.{Card}
use Rattle.density_spec.specs.declared.Sector.{Sector}
use Rattle.density_spec.specs.declared.Sector.TheVariants.{Shade, Outside, NotANumber}
use Rattle.door_spec.specs.declared.RingsAnswer.{RingsAnswer}
use Rattle.door_spec.specs.declared.RingsClass.{RingsClass}
use Rattle.door_spec.specs.declared.RingsHome.{RingsHome}
use Rattle.door_spec.specs.declared.RingsNearest.{RingsNearest}
use Rattle.door_spec.specs.declared.RingsSighting.{RingsSighting}
use Rattle.door_spec.specs.declared.RingsStep.{RingsStep}
use Rattle.door_spec.specs.declared.RingsRecord.{RingsRecord}
use Rattle.door_spec.specs.declared.RingsSector.{RingsSector}
use Rattle.door_spec.specs.declared.RingsSet.{RingsSet}
use Rattle.door_spec.specs.declared.Laid.{Laid}

-- r is the form `flat` of an answer that is promised
pub record Flat {A F : Type 0} (Says : A → Type 0) (flat : A → F) (r : F) : Type 0 where
  pub answer : A
  pub says : Says answer
  pub same : r ≡ flat answer

-- ---- answers of one number

abbrev pub answered : ℕ → RingsAnswer
answered x = record { refused = 0; place = 0; value = x }

abbrev pub refused_by : Refusal → RingsAnswer
refused_by r = record { refused = number_of r; place = place_of r; value = 0 }

-- a number is told as it is
abbrev pub flat_number : Result ℕ Refusal → RingsAnswer
flat_number (Ok x) = answered x
flat_number (Err r) = refused_by r

-- what is done is 1
abbrev pub flat_done : Result Unit Refusal → RingsAnswer
flat_done (Ok _) = answered 1
flat_done (Err r) = refused_by r

-- yes is 1 and no is 0
abbrev pub flat_told : Result Bool Refusal → RingsAnswer
flat_told (Ok true) = answered 1
flat_told (Ok false) = answered 0
flat_told (Err r) = refused_by r

abbrev pub flat_distance : Result ℕ Refusal → RingsAnswer
flat_distance = flat_number

-- 1 where there is a next ring, 0 where there is none
abbrev pub flat_arrival : Result Arrival Refusal → RingsAnswer
flat_arrival (Ok B.Moved) = answered 1
flat_arrival (Ok B.Done) = answered 0
flat_arrival (Err r) = refused_by r

abbrev pub flat_first : Result Unit Refusal → RingsAnswer
flat_first = flat_done

abbrev pub flat_next : Result Next Refusal → RingsAnswer
flat_next (Ok X.Ring) = answered 1
flat_next (Ok X.Done) = answered 0
flat_next (Err r) = refused_by r

-- the place behind the record
abbrev pub flat_written : Result ℕ Refusal → RingsAnswer
flat_written = flat_number

abbrev pub flat_conversion : Result Unit Refusal → RingsAnswer
flat_conversion = flat_done

abbrev pub flat_ring_read : Result Unit Refusal → RingsAnswer
flat_ring_read = flat_done

abbrev pub flat_strip : Result Unit Refusal → RingsAnswer
flat_strip = flat_done

abbrev pub flat_position : Result ℕ Refusal → RingsAnswer
flat_position = flat_number

abbrev pub flat_counted : Result ℕ Refusal → RingsAnswer
flat_counted = flat_number

-- ---- answers of several numbers

abbrev pub class_number : Class → ℕ
class_number (Loose p) = 1
class_number (Opening p) = 2
class_number (Repeating p) = 3
class_number Single = 4

-- the place of the first sector that goes wrong, the lyn, the period
abbrev pub class_value : Class → ℕ
class_value (Loose p) = p
class_value (Opening p) = p
class_value (Repeating p) = p
class_value Single = 0

abbrev pub flat_classified : Result Class Refusal → RingsClass
flat_classified (Ok c) = record { refused = 0; place = 0; kind = class_number c; value = class_value c }
flat_classified (Err r) = record { refused = number_of r; place = place_of r; kind = 0; value = 0 }

abbrev pub flat_homed : Result Home Refusal → RingsHome
flat_homed (Ok h) = record { refused = 0; place = 0; shift = h.shift; period = h.period }
flat_homed (Err r) = record { refused = number_of r; place = place_of r; shift = 0; period = 0 }

abbrev pub flat_closest : Result Nearest Refusal → RingsNearest
flat_closest (Ok x) = record { refused = 0; place = 0; distance = x.distance; shift = x.shift }
flat_closest (Err r) = record { refused = number_of r; place = place_of r; distance = 0; shift = 0 }

abbrev pub sighted : ℕ → ℕ → ℕ → ℕ → RingsSighting
sighted kind t i x = record { refused = 0; place = 0; kind = kind; target = t; shift = i; misread = x }

abbrev pub flat_sighting : Result Sighting Refusal → RingsSighting
flat_sighting (Ok (Y.Front t i x)) = sighted 1 t i x
flat_sighting (Ok (Y.Back t i x)) = sighted 2 t i x
flat_sighting (Ok Y.Several) = sighted 3 0 0 0
flat_sighting (Ok Y.Unknown) = sighted 0 0 0 0
flat_sighting (Err r) = record { refused = number_of r; place = place_of r; kind = 0; target = 0; shift = 0; misread = 0 }

abbrev pub flat_outcome : Result Outcome Refusal → RingsStep
flat_outcome (Ok (O.Moved m)) = record { refused = 0; place = 0; moved = 1; moves = m }
flat_outcome (Ok (O.Done m)) = record { refused = 0; place = 0; moved = 0; moves = m }
flat_outcome (Err r) = record { refused = number_of r; place = place_of r; moved = 0; moves = 0 }

abbrev pub kind_number : Kind → ℕ
kind_number Front = 1
kind_number Packed = 2

abbrev pub flat_entry : Result (Option Record) Refusal → RingsRecord
flat_entry (Ok (Some e)) = record { refused = 0; place = 0; kind = kind_number e.kind; n = e.n; k = e.k; next = e.next }
flat_entry (Ok None) = record { refused = 0; place = 0; kind = 0; n = 0; k = 0; next = 0 }
flat_entry (Err r) = record { refused = number_of r; place = place_of r; kind = 0; n = 0; k = 0; next = 0 }

abbrev pub card_of : Float → Float → Card
card_of d l = record { dark = d; light = l }

abbrev pub no_float : Float
no_float = of_bits binary32 0

abbrev pub flat_sector : Sector → RingsSector
flat_sector (Shade x) = record { refused = 0; place = 0; kind = 1; shade = x; outside = no_float }
flat_sector (Outside x) = record { refused = 0; place = 0; kind = 2; shade = 0; outside = x }
flat_sector NotANumber = record { refused = 0; place = 0; kind = 3; shade = 0; outside = no_float }

abbrev pub flat_sector_read : Result Sector Refusal → RingsSector
flat_sector_read (Ok s) = flat_sector s
flat_sector_read (Err r) = record { refused = number_of r; place = place_of r; kind = 0; shade = 0; outside = no_float }

abbrev pub full_number : Bool → ℕ
full_number true = 1
full_number false = 0

abbrev pub flat_laid : Result Laid Refusal → RingsSet
flat_laid (Ok s) = record { refused = 0; place = 0; taken = s.taken; full = full_number s.full }
flat_laid (Err r) = record { refused = number_of r; place = place_of r; taken = 0; full = 0 }
