-- What each time w through a catalogue does.
--     writes_of w                     is what a block shows written?
--     file_failed_of w, refused_of w r  how a run ends where a read fails, and where a piece is refused
use Rattle.std.specs.Prelude.{Bool, true, false}
use Rattle.refusal.specs.declared.Refusal.{Refusal}
use Rattle.refusal.specs.Numbers.{number_of, place_of}
use Rattle.program_ending_inner.specs.declared.Ending.{Ending}
use Rattle.program_ending_inner.specs.declared.Ending.TheVariants as E
use Rattle.files_time_inner.specs.declared.Time.{Time}
use Rattle.files_time_inner.specs.declared.Time.TheVariants.{Only, First, Second}

abbrev pub writes_of : Time → Bool
writes_of Only = true
writes_of First = false
writes_of Second = true

abbrev pub file_failed_of : Time → Ending
file_failed_of Only = E.Unread
file_failed_of First = E.Unread
file_failed_of Second = E.Lost

abbrev pub refused_of : Time → Refusal → Ending
refused_of Only r = E.Whole
refused_of First r = E.Refused (number_of r) (place_of r)
refused_of Second r = E.Changed
