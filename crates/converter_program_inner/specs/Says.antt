-- How a time through the catalogue ended, and how both did. w tells which time it is: false the first, which checks, true the second, which writes.
--     Reached w e                  some bytes c of length e are good records, one behind another; the second time some bytes d are their conversion
--     Bad x p                      of some bytes the first damage is refused with the number x at the place p
--     StopSays w t                 why it stopped before the end: the catalogue is called too long only behind good records as far as the limit
--     PassSays w v                 how a time through the catalogue ended. c is what the blocks were, each from the place where the one before it was done
--     WrittenSays e t              a second time that does not end where the first did is told
--     ThroughSays v                how both ended: the whole only where both came to one place, through good records and through their conversion
-- That Reached and Bad are what converting those bytes whole would answer: converter_spec, proofs/Unique.
use Rattle.std.specs.Prelude.{ℕ, ◌≤◌, ◌≡◌, ◌⊎◌, Bool, true, false, List, length}
use Rattle.refusal.specs.declared.Refusal.{Refusal}
use Rattle.refusal.specs.Numbers.{number_of, place_of}
use Rattle.converter_spec.specs.Converts.{Sound, Turned, Damaged}
use Rattle.program_ending_inner.specs.declared.Ending.{Ending}
use Rattle.program_ending_inner.specs.declared.Ending.TheVariants as E
use Rattle.program_passes_inner.specs.Passes.{limit, Finish}
use Rattle.program_passes_inner.specs.Passes.Finish.{Through, Ended}

-- ---- a time through

abbrev pub Reached : Bool → ℕ → Type 0
Reached false e = (c : List ℕ) × (length c ≡ e) × Sound c
Reached true e = (c : List ℕ) × (d : List ℕ) × (length c ≡ e) × Turned c d

abbrev pub Bad : ℕ → ℕ → Type 0
Bad x p = (c : List ℕ) × (r : Refusal) × Damaged c 0 r × (x ≡ number_of r) × (p ≡ place_of r)

abbrev pub StopSays : Bool → Ending → Type 0
StopSays w E.Whole = ⊥
StopSays w (E.Refused x p) = (w ≡ false) × Bad x p
StopSays w E.Unread = w ≡ false
StopSays w E.Unwritten = w ≡ true
StopSays w E.TooLong = (e : ℕ) × (limit ≤ e) × Reached w e
StopSays w E.NoFile = ⊥
StopSays w E.Lost = w ≡ true
StopSays w E.Changed = w ≡ true

abbrev pub PassSays : Bool → Finish → Type 0
PassSays w (Through e) = Reached w e
PassSays w (Ended t) = StopSays w t

-- ---- both times

abbrev pub WrittenSays : ℕ → Ending → Type 0
WrittenSays e t = (Reached true e × (t ≡ E.Whole)) ⊎ StopSays true t

pub data ThroughSays (t : Ending) : Type 0 where
  nowhere : t ≡ E.NoFile → ThroughSays t
  stopped : (w : Bool) → StopSays w t → ThroughSays t
  whole : (e : ℕ) → Reached false e → Reached true e → t ≡ E.Whole → ThroughSays t
