-- How a run ended, by what was read.
--     line_ending wrote most  the run of a program that reads its input and writes one text for it; wrote: could all of it be written?
--     whole_ending wrote most the run of one that has to read its input to its end, and cannot where it fills the buffer
--     stream_ending wrote got the run of one that answers its lines as they come: it ends behind bytes only where it can count no more reads
use Rattle.std.specs.Prelude.{Bool, true, false}
use Rattle.program_ending_inner.specs.declared.Ending.{Ending}
use Rattle.program_ending_inner.specs.declared.Ending.TheVariants as E
use Rattle.program_reading_inner.specs.declared.Got.{Got}
use Rattle.program_reading_inner.specs.declared.Got.TheVariants.{Bytes, Over, Failed}
use Rattle.program_reading_inner.specs.declared.Most.{Most}
use Rattle.program_reading_inner.specs.declared.Most.TheVariants as M

abbrev pub line_ending : Bool → Most → Ending
line_ending false most = E.Unwritten
line_ending true M.Full = E.Whole
line_ending true (M.Ended n) = E.Whole
line_ending true M.Failed = E.Unread

abbrev pub whole_ending : Bool → Most → Ending
whole_ending wrote M.Full = E.TooLong
whole_ending wrote (M.Ended n) = line_ending wrote (M.Ended n)
whole_ending wrote M.Failed = line_ending wrote M.Failed

abbrev pub stream_ending : Bool → Got → Ending
stream_ending false got = E.Unwritten
stream_ending true (Bytes n) = E.TooLong
stream_ending true Over = E.Whole
stream_ending true Failed = E.Unread
