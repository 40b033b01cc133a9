-- What becomes of a block. j is what the file is gone through for, w which time it is.
--     most                       no block has more bytes
--     SmallFile b d                  the output d has room for what the block b shows
--     RoomyFile b d                  and a block b has room for the longest record
--     turn_of w h m               what becomes of a block of which m bytes were gone through
--     FileTurnSays j w p b last d v  the block b, which begins at the place p of the file, was gone through, and what it shows stands at the beginning of d: v is what becomes of it
--     FileAtSays j w p b d v         the same of what was read to the block b
use Rattle.std.specs.Prelude.{ℕ, ◌+◌, ◌*◌, ◌≤◌, ◌≡◌, Bool, true, List, length, take, Result, Ok, Err}
use Rattle.refusal.specs.declared.Refusal.{Refusal}
use Rattle.program_ending_inner.specs.declared.Ending.TheVariants as E
use Rattle.program_passes_inner.specs.Passes.{ReadTo, Course}
use Rattle.program_passes_inner.specs.Passes.Course.{On, Done, Stopped}
use Rattle.files_spec.specs.declared.Job.{Job}
use Rattle.files_spec.specs.declared.How.{How}
use Rattle.files_spec.specs.declared.How.TheVariants as H
use Rattle.files_spec.specs.declared.Taken.{Taken}
use Rattle.files_spec.specs.Blocks.{TakenSays}
use Rattle.files_text_inner.specs.Room.{record_room}
use Rattle.files_records_inner.specs.Says.{share}
use Rattle.files_time_inner.specs.declared.Time.{Time}
use Rattle.files_time_inner.specs.Says.{writes_of, file_failed_of, refused_of}

abbrev pub most : ℕ
most = 2048

pub record SmallFile (b d : List ℕ) : Type 0 where
  pub short : length b ≤ most
  pub room : most * share + record_room ≤ length d

pub record RoomyFile (b d : List ℕ) : Type 0 where
  pub some : 68 ≤ length b
  pub small : SmallFile b d

abbrev pub turn_of : Time → Result How Refusal → ℕ → Course
turn_of w (Ok H.On) m = On m
turn_of w (Ok H.Over) m = Done m
turn_of w (Err r) m = Stopped (refused_of w r)

-- ---- a block

pub data FileTurnSays (j : Job) (w : Time) (p : ℕ) (b : List ℕ) (last : Bool) (d : List ℕ) (v : Course) : Type 0 where
  gone : (u : Taken) (t : List ℕ) → TakenSays j p b last u t → take (length t) d ≡ t → v ≡ turn_of w u.how u.used → FileTurnSays j w p b last d v
  unwritten : writes_of w ≡ true → v ≡ Stopped E.Unwritten → FileTurnSays j w p b last d v

-- what stands in the lent block afterwards was read: all of it, or its first m bytes, and then the file ended
pub data FileAtSays (j : Job) (w : Time) (p : ℕ) (b d : List ℕ) (v : Course) : Type 0 where
  unread : v ≡ Stopped (file_failed_of w) → FileAtSays j w p b d v
  read : (last : Bool) (m : ℕ) → ReadTo b last m → FileTurnSays j w p (take m b) last d v → FileAtSays j w p b d v
