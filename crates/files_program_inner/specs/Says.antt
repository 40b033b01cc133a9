-- How a time through the file ended, and how all did. j is what the file is gone through for, w which time it is.
--     once_for j, AsOften j w     is the file gone through once for this job, and is this one of its times?
--     FileReached j e                some bytes c of length e are good records, one behind another
--     FileTold j e, Broken j r       some bytes are a good catalogue, of length e, or one whose first damage is r
--     FileStopSays j w t             why it stopped before the end: the file is called too long only behind good records as far as the limit
--     FilePassSays j w v             how a time through the file ended. c is what the blocks were, each from the place where the one before it was done
--     FileWrittenSays, FileThroughSays   how a second time ended, and the whole: `Whole` only where the file was a good catalogue, or its damage was told in the text itself
use Rattle.std.specs.Prelude.{ℕ, ◌≤◌, ◌≡◌, ◌⊎◌, Bool, true, false, List, length}
use Rattle.refusal.specs.declared.Refusal.{Refusal}
use Rattle.std.specs.Prelude.{Ok, Err}
use Rattle.refusal.specs.Numbers.{number_of, place_of}
use Rattle.program_ending_inner.specs.declared.Ending.{Ending}
use Rattle.program_ending_inner.specs.declared.Ending.TheVariants as E
use Rattle.program_passes_inner.specs.Passes.{limit, Finish}
use Rattle.program_passes_inner.specs.Passes.Finish.{Through, Ended}
use Rattle.files_spec.specs.declared.Job.{Job}
use Rattle.files_spec.specs.declared.Job.TheVariants as J
use Rattle.files_spec.specs.Catalogues.{ShowsAll}
use Rattle.files_spec.specs.Blocks.{Records}
use Rattle.files_time_inner.specs.declared.Time.{Time}
use Rattle.files_time_inner.specs.declared.Time.TheVariants.{Only, First, Second}
use Rattle.files_time_inner.specs.Says.{writes_of}

abbrev pub once_for : Job → Bool
once_for J.Read = true
once_for J.Move = false

abbrev pub AsOften : Job → Time → Type 0
AsOften j Only = once_for j ≡ true
AsOften j First = once_for j ≡ false
AsOften j Second = once_for j ≡ false

-- ---- a time through

abbrev pub FileReached : Job → ℕ → Type 0
FileReached j e = (c : List ℕ) × (t : List ℕ) × (length c ≡ e) × Records j 0 c t

abbrev pub FileTold : Job → ℕ → Type 0
FileTold j e = (c : List ℕ) × (t : List ℕ) × (length c ≡ e) × ShowsAll j c (Ok tt) t

abbrev pub Broken : Job → Refusal → Type 0
Broken j r = (c : List ℕ) × (t : List ℕ) × ShowsAll j c (Err r) t

abbrev pub FileStopSays : Job → Time → Ending → Type 0
FileStopSays j w E.Whole = (w ≡ Only) × ((r : Refusal) × Broken j r)
FileStopSays j w (E.Refused x p) = (w ≡ First) × ((r : Refusal) × Broken j r × (x ≡ number_of r) × (p ≡ place_of r))
FileStopSays j w E.Unread = w ≡ Second → ⊥
FileStopSays j w E.Unwritten = writes_of w ≡ true
FileStopSays j w E.TooLong = (e : ℕ) × (limit ≤ e) × FileReached j e
FileStopSays j w E.NoFile = ⊥
FileStopSays j w E.Lost = w ≡ Second
FileStopSays j w E.Changed = w ≡ Second

abbrev pub FilePassSays : Job → Time → Finish → Type 0
FilePassSays j w (Through e) = FileTold j e
FilePassSays j w (Ended t) = FileStopSays j w t

-- ---- both times

abbrev pub FileWrittenSays : Job → ℕ → Ending → Type 0
FileWrittenSays j e t = (FileTold j e × (t ≡ E.Whole)) ⊎ FileStopSays j Second t

pub data FileThroughSays (j : Job) (t : Ending) : Type 0 where
  nowhere : t ≡ E.NoFile → FileThroughSays j t
  stopped : (w : Time) → AsOften j w → FileStopSays j w t → FileThroughSays j t
  whole : (e : ℕ) → FileTold j e → t ≡ E.Whole → FileThroughSays j t
