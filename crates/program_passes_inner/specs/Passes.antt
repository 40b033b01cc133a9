-- What becomes of a block of a file, and how a time through the file ends.
--     limit, furthest          no place is as far as 2 to the power 62; and none of this machine's is as far as 2 to the power 63
--     part_of most m            what was read to a block of m bytes; None where a read failed
--     PartSays b r             the same of the block b, as it was left
--     ReadTo b last m          the first m bytes of b were read: all of it, or (last) fewer, and then the input ended
--     Course, course_of t       what becomes of a block, as the answer t tells it: so many bytes of it are done, and another follows; or all is done with so many bytes of it;
--                              or that is as far as it goes
--     gone_by last m            m bytes are done of a block that is or is not the last
--     Finish, finish_of v       how a time through ended, as the answer v tells it: at the end, which is at that place; or before it
--     goes_further p c          is another block read behind one that began at p?
--     EndWithin p c            where the file ends with it, the place of its end is below 2 to the power 63
--     finish_at p c             how a time ends with a block that began at p, behind which none is read
--     failed_of w               how a run ends where a read fails, the first time and (w) the second
--     same_end a b              how a run ends whose first time ended at a and the second at b
use Rattle.std.specs.Prelude.{ℕ, ◌+◌, ◌-◌, ◌<◌, ◌≡◌, Bool, true, false, List, eqb, ltb, length, Option, Some, None, Result, Ok, Err}
use Rattle.program_ending_inner.specs.declared.Ending.{Ending}
use Rattle.program_ending_inner.specs.declared.Ending.TheVariants as E
use Rattle.program_reading_inner.specs.declared.Most.{Most}
use Rattle.program_reading_inner.specs.declared.Most.TheVariants as M
use Rattle.program_reading_inner.specs.Says.{MostSays}
use Rattle.program_passes_inner.specs.declared.Part.{Part}
use Rattle.program_passes_inner.specs.declared.Turn.{Turn}
use Rattle.program_passes_inner.specs.declared.Turn.TheVariants as T

abbrev pub limit : ℕ
limit = 4611686018427387904

abbrev pub furthest : ℕ
furthest = 9223372036854775808

-- ---- what was read

abbrev pub part_of : Most → ℕ → Option Part
part_of M.Full m = Some (record { len = m; last = false })
part_of (M.Ended n) m = Some (record { len = n; last = true })
part_of M.Failed m = None

pub record PartSays (b : List ℕ) (r : Option Part) : Type 0 where
  pub most : Most
  pub says : MostSays most b
  pub part : r ≡ part_of most (length b)

abbrev pub ReadTo : List ℕ → Bool → ℕ → Type 0
ReadTo b false m = m ≡ length b
ReadTo b true m = m < length b

-- ---- a block

pub data Course : Type 0 where
  On : ℕ → Course
  Done : ℕ → Course
  Stopped : Ending → Course

abbrev pub course_of : Result Turn Ending → Course
course_of (Ok (T.On m)) = On m
course_of (Ok (T.Over m)) = Done m
course_of (Err t) = Stopped t

abbrev pub gone_by : Bool → ℕ → Course
gone_by false m = On m
gone_by true m = Done m

-- ---- a time through

pub data Finish : Type 0 where
  Through : ℕ → Finish
  Ended : Ending → Finish

abbrev pub finish_of : Result ℕ Ending → Finish
finish_of (Ok e) = Through e
finish_of (Err t) = Ended t

abbrev pub goes_further : ℕ → Course → Bool
goes_further p (On m) = ltb m (limit - p)
goes_further p (Done m) = false
goes_further p (Stopped t) = false

-- so that it is a number of this machine
abbrev pub EndWithin : ℕ → Course → Type 0
EndWithin p (On m) = Unit
EndWithin p (Done m) = p + m < furthest
EndWithin p (Stopped t) = Unit

abbrev pub finish_at : ℕ → Course → Finish
finish_at p (On m) = Ended E.TooLong
finish_at p (Done m) = Through (p + m)
finish_at p (Stopped t) = Ended t

-- ---- both times

abbrev pub failed_of : Bool → Ending
failed_of false = E.Unread
failed_of true = E.Lost

unfoldable pub same_end : ℕ → ℕ → Ending
same_end a b = elim (eqb a b) [ true ↦ E.Whole | false ↦ E.Changed ]
