-- What each answer prints: one line.
--     refusal_text r          refused 3 at 2
--     malformed_text          refused 11 at 0: what cannot be read
--     class_text              loose at 3; opening 5; repeating 2; single
--     home_text a c           home 001101 shift 4 period 6, where c is the home reading
--     told_text               yes; no
--     distance_text           apart 2
--     place_text              place 6
--     many_text a b           6 3: the rings, and those that look different at each turn
--     stock_text b            23
--     step_text a c           next 0111 moves 3, where c is the ring; done moves 0
--     arrival_text a c        next 001111, where c is the ring; done
--     strip_text a c          00010111, where c is the strip
--     sector_text             shade 1; outside 3fc00000, by its bits; not a number
--     shades_text a c         ring 0110, where c is the ring
--     sight_text              front 3 turned 5 misread 1; back 3 turned 5 misread 1; several; unknown
--     first_ring_text a c      ring 000111, where c is the ring
--     next_ring_text a c       ring 001011, where c is the ring; done
use Rattle.std.specs.Prelude.{ℕ, Bool, true, false, List, [], ◌∷◌, length, Result, Ok, Err}
use Rattle.text_spec.specs.Ascii.{ascii}
use Rattle.text_fill_spec.specs.Filled.{filled_text}
use Rattle.rings.specs.declared.Class.{Class}
use Rattle.rings.specs.declared.Class.TheVariants.{Loose, Opening, Repeating, Single}
use Rattle.refusal.specs.declared.Refusal.{Refusal}
use Rattle.refusal.specs.declared.Refusal.TheVariants.{Line}
use Rattle.refusal.specs.Numbers.{number_of, place_of}
use Rattle.home_spec.specs.declared.Home.{Home}
use Rattle.walk_spec.specs.declared.Outcome.{Outcome}
use Rattle.walk_spec.specs.declared.Outcome.TheVariants as O
use Rattle.walk_bracelet_spec.specs.declared.Arrival.{Arrival}
use Rattle.walk_bracelet_spec.specs.declared.Arrival.TheVariants as A
use Rattle.sight_spec.specs.declared.Sighting.{Sighting}
use Rattle.sight_spec.specs.declared.Sighting.TheVariants as S
use Rattle.shades_spec.specs.declared.Next.{Next}
use Rattle.shades_spec.specs.declared.Next.TheVariants as N
use Rattle.density_spec.specs.declared.Sector.{Sector}
use Rattle.density_spec.specs.declared.Sector.TheVariants as Tells
use Rattle.desk_spec.specs.Floats.{digits_of}

-- a text with numbers alone
abbrev pub plain_text : List ℕ → List ℕ → List ℕ
plain_text t xs = filled_text t xs 0 []

-- a text with a ring
abbrev pub counted_ring_text : List ℕ → List ℕ → List ℕ → List ℕ
counted_ring_text t xs w = filled_text t xs (length w) w

abbrev pub refusal_text : Refusal → List ℕ
refusal_text r = plain_text (ascii "refused % at %\n") (number_of r ∷ place_of r ∷ [])

abbrev pub malformed_text : List ℕ
malformed_text = refusal_text Line

abbrev pub name_text : Class → List ℕ
name_text (Loose p) = plain_text (ascii "loose at %\n") (p ∷ [])
name_text (Opening p) = plain_text (ascii "opening %\n") (p ∷ [])
name_text (Repeating p) = plain_text (ascii "repeating %\n") (p ∷ [])
name_text Single = plain_text (ascii "single\n") []

abbrev pub class_text : Result Class Refusal → List ℕ
class_text (Ok c) = name_text c
class_text (Err r) = refusal_text r

abbrev pub home_text : Result Home Refusal → List ℕ → List ℕ
home_text (Ok h) c = counted_ring_text (ascii "home @ shift % period %\n") (h.shift ∷ h.period ∷ []) c
home_text (Err r) c = refusal_text r

abbrev pub told_text : Result Bool Refusal → List ℕ
told_text (Ok true) = plain_text (ascii "yes\n") []
told_text (Ok false) = plain_text (ascii "no\n") []
told_text (Err r) = refusal_text r

abbrev pub distance_text : Result ℕ Refusal → List ℕ
distance_text (Ok x) = plain_text (ascii "apart %\n") (x ∷ [])
distance_text (Err r) = refusal_text r

abbrev pub place_text : Result ℕ Refusal → List ℕ
place_text (Ok p) = plain_text (ascii "place %\n") (p ∷ [])
place_text (Err r) = refusal_text r

abbrev pub many_text : Result ℕ Refusal → Result ℕ Refusal → List ℕ
many_text (Ok x) (Ok y) = plain_text (ascii "% %\n") (x ∷ y ∷ [])
many_text (Ok x) (Err r) = refusal_text r
many_text (Err r) b = refusal_text r

abbrev pub stock_text : ℕ → List ℕ
stock_text b = plain_text (ascii "%\n") (b ∷ [])

abbrev pub step_text : Result Outcome Refusal → List ℕ → List ℕ
step_text (Ok (O.Moved m)) c = counted_ring_text (ascii "next @ moves %\n") (m ∷ []) c
step_text (Ok (O.Done m)) c = plain_text (ascii "done moves %\n") (m ∷ [])
step_text (Err r) c = refusal_text r

abbrev pub arrival_text : Result Arrival Refusal → List ℕ → List ℕ
arrival_text (Ok A.Moved) c = counted_ring_text (ascii "next @\n") [] c
arrival_text (Ok A.Done) c = plain_text (ascii "done\n") []
arrival_text (Err r) c = refusal_text r

abbrev pub strip_text : Result Unit Refusal → List ℕ → List ℕ
strip_text (Ok _) c = counted_ring_text (ascii "@\n") [] c
strip_text (Err r) c = refusal_text r

abbrev pub sight_text : Result Sighting Refusal → List ℕ
sight_text (Ok (S.Front t i x)) = plain_text (ascii "front % turned % misread %\n") (t ∷ i ∷ x ∷ [])
sight_text (Ok (S.Back t i x)) = plain_text (ascii "back % turned % misread %\n") (t ∷ i ∷ x ∷ [])
sight_text (Ok S.Several) = plain_text (ascii "several\n") []
sight_text (Ok S.Unknown) = plain_text (ascii "unknown\n") []
sight_text (Err r) = refusal_text r

abbrev pub first_ring_text : Result Unit Refusal → List ℕ → List ℕ
first_ring_text (Ok _) c = counted_ring_text (ascii "ring @\n") [] c
first_ring_text (Err r) c = refusal_text r

abbrev pub next_ring_text : Result Next Refusal → List ℕ → List ℕ
next_ring_text (Ok N.Ring) c = counted_ring_text (ascii "ring @\n") [] c
next_ring_text (Ok N.Done) c = plain_text (ascii "done\n") []
next_ring_text (Err r) c = refusal_text r

abbrev pub told_sector_text : Sector → List ℕ
told_sector_text (Tells.Shade s) = plain_text (ascii "shade %\n") (s ∷ [])
told_sector_text (Tells.Outside x) = counted_ring_text (ascii "outside @\n") [] (digits_of x)
told_sector_text Tells.NotANumber = plain_text (ascii "not a number\n") []

abbrev pub sector_text : Result Sector Refusal → List ℕ
sector_text (Ok s) = told_sector_text s
sector_text (Err r) = refusal_text r

abbrev pub shades_text : Result Unit Refusal → List ℕ → List ℕ
shades_text (Ok _) c = counted_ring_text (ascii "ring @\n") [] c
shades_text (Err r) c = refusal_text r
