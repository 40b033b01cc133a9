-- What the parts of the programs promise. x is the form of the records, w which time it is; u is what was kept of the line under way, n how many lines had ended; o is the output
-- before, d afterwards.
--     RoomyLines b l d               a block b has a byte, the output d has room for what it writes, and the line l for what is kept of one
--     LineTurnSays x w u s n o v l d   the bytes s were taken as `files_write_inner`, specs/Says says it, and v is what becomes of them
--     LineLastSays x w u n o v d     the same of the end of the input
--     LineAtSays                     the same of what was read to the block b
--     LinesThrough x e               some bytes of length e are lines that all write
--     LineStopSays x w t             why it stopped before the end: at the first refused line the first time, of which nothing is written; at a read or a write that failed;
--                                    or the input is too long, or not the same
--     LinePassSays, LineWrittenSays, LineThroughSays    how a time ended, a second time, and the whole: `Whole` only where all lines write, and both times came to one place
use Rattle.std.specs.Prelude.{ℕ, ◌+◌, ◌*◌, ◌<◌, ◌≤◌, ◌≡◌, ◌⊎◌, List, [], length, take, Result, Ok, Err, Option, Some, None}
use Rattle.refusal.specs.declared.Refusal.{Refusal}
use Rattle.record_spec.specs.declared.Kind.{Kind}
use Rattle.stream_spec.specs.Lines.{ended}
use Rattle.stream_spec.specs.Texts.{Texts}
use Rattle.program_ending_inner.specs.declared.Ending.TheVariants as E
use Rattle.program_passes_inner.specs.Passes.{limit}
use Rattle.files_text_inner.specs.Room.{record_room}
use Rattle.files_write_spec.specs.RingLines.{most_kept, LineWrites}
use Rattle.files_write_spec.specs.Inputs.{LinesWrite, FirstRefused}
use Rattle.files_write_byte_inner.specs.declared.Lined.{Lined}
use Rattle.files_write_byte_inner.specs.declared.BadLine.{BadLine}
use Rattle.files_write_byte_inner.specs.Says.{LinedEnd}
use Rattle.files_write_inner.specs.Says.{LinedSays}
use Rattle.files_write_ending_inner.specs.declared.Time.{Time}
use Rattle.files_write_ending_inner.specs.declared.Time.TheVariants.{First, Second}
use Rattle.files_write_ending_inner.specs.declared.Ended.{Ended}
use Rattle.files_write_ending_inner.specs.declared.Ended.TheVariants.{Line, As}
use Rattle.files_write_ending_inner.specs.Endings.{line_refused_of, line_failed_of}
use Rattle.files_write_program_inner.specs.declared.Gone.{Gone}

pub record RoomyLines (b l d : List ℕ) : Type 0 where
  pub some : 0 < length b
  pub short : length b ≤ 65536
  pub kept : length l ≡ most_kept
  pub room : length b * record_room ≤ length d

-- ---- a block

pub data LineTurnSays (x : Kind) (w : Time) (u s : List ℕ) (n : ℕ) (o : List ℕ) (v : Result (Option Gone) Ended) (l d : List ℕ) : Type 0 where
  gone : (r : Lined) → LinedSays x u s o n (Ok r) l d → v ≡ Ok (Some (record { used = length s; len = r.len; lines = r.lines })) → LineTurnSays x w u s n o v l d
  bad : (r : BadLine) → LinedSays x u s o n (Err r) l d → v ≡ Err (line_refused_of w r.why r.number) → LineTurnSays x w u s n o v l d
  unwritten : w ≡ Second → v ≡ Err (As E.Unwritten) → LineTurnSays x w u s n o v l d

pub data LineLastSays (x : Kind) (w : Time) (u : List ℕ) (n : ℕ) (o : List ℕ) (v : Result (Option Gone) Ended) (d : List ℕ) : Type 0 where
  over : (r : Lined) → LinedEnd x u o n (Ok r) d → v ≡ Ok None → LineLastSays x w u n o v d
  worse : (r : BadLine) → LinedEnd x u o n (Err r) d → v ≡ Err (line_refused_of w r.why r.number) → LineLastSays x w u n o v d
  unsaid : w ≡ Second → v ≡ Err (As E.Unwritten) → LineLastSays x w u n o v d

-- what stands in the lent block afterwards was read: all of it, or its first m bytes; or nothing, and the input is over
pub data LineAtSays (x : Kind) (w : Time) (u b : List ℕ) (n : ℕ) (o : List ℕ) (v : Result (Option Gone) Ended) (l d : List ℕ) : Type 0 where
  unread : v ≡ Err (line_failed_of w) → LineAtSays x w u b n o v l d
  full : LineTurnSays x w u b n o v l d → LineAtSays x w u b n o v l d
  some : (m : ℕ) → 0 < m → m < length b → LineTurnSays x w u (take m b) n o v l d → LineAtSays x w u b n o v l d
  last : LineLastSays x w u n o v d → LineAtSays x w u b n o v l d

-- ---- a time through

abbrev pub LinesThrough : Kind → ℕ → Type 0
LinesThrough x e = (c : List ℕ) × (t : List ℕ) × (length c ≡ e) × LinesWrite x c t

abbrev pub LineStopSays : Kind → Time → Ended → Type 0
LineStopSays x w (Line r n) = (w ≡ First) × ((c : List ℕ) × FirstRefused x c n r)
LineStopSays x w (As E.Whole) = ⊥
LineStopSays x w (As (E.Refused a p)) = ⊥
LineStopSays x w (As E.Unread) = w ≡ First
LineStopSays x w (As E.Unwritten) = w ≡ Second
LineStopSays x w (As E.TooLong) = (c : List ℕ) × (t : List ℕ) × (limit ≤ length c) × Texts (LineWrites x) (ended [] c) t
LineStopSays x w (As E.NoFile) = ⊥
LineStopSays x w (As E.Lost) = w ≡ Second
LineStopSays x w (As E.Changed) = w ≡ Second

abbrev pub LinePassSays : Kind → Time → Result ℕ Ended → Type 0
LinePassSays x w (Ok e) = LinesThrough x e
LinePassSays x w (Err t) = LineStopSays x w t

-- ---- both times

abbrev pub LineWrittenSays : Kind → ℕ → Ended → Type 0
LineWrittenSays x e t = (LinesThrough x e × (t ≡ As E.Whole)) ⊎ LineStopSays x Second t

pub data LineThroughSays (x : Kind) (t : Ended) : Type 0 where
  nowhere : t ≡ As E.NoFile → LineThroughSays x t
  stopped : (w : Time) → LineStopSays x w t → LineThroughSays x t
  whole : (e : ℕ) → LinesThrough x e → t ≡ As E.Whole → LineThroughSays x t
