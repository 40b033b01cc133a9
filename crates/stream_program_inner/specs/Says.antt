-- What is written behind a read, and behind all of them. Whether another follows: `stream_steps_inner`.
--     RoomForRead kind got s b    the buffer b has room for a text for each byte of the block s, and what was read is inside it
--     BehindRead                  what stands in the buffer behind a read: the texts of the lines that end in what was read, that of a last line where the input
--                                 is over, and nothing where the read failed, and the line under way is as it was; as in `stream_spec`, specs/Blocks
--     ReadAnswered                the same, of however many bytes that is
--     TurnsMade kind n u          n reads gave bytes, and each was answered with what the one before it had left of the line under way; u is what the last one left
--     PumpSays kind got n s b'    behind n such reads the last one gave `got`, and was answered with what they had left; s and b' are the block and the buffer then
use Rattle.std.specs.Prelude.{ℕ, suc, ◌*◌, ◌<◌, ◌≤◌, ◌≡◌, List, [], length, take}
use Rattle.stream_spec.specs.Blocks.{BlockSays, EndSays}
use Rattle.stream_kind_inner.specs.declared.Kind.{Kind}
use Rattle.stream_kind_inner.specs.Says.{Said, most_of, room_of}
use Rattle.program_reading_inner.specs.Says.{GotSays}
use Rattle.program_reading_inner.specs.declared.Got.{Got}
use Rattle.program_reading_inner.specs.declared.Got.TheVariants.{Bytes, Over, Failed}

pub record RoomForRead (kind : Kind) (got : Got) (s b : List ℕ) : Type 0 where
  pub some : 0 < length s
  pub room : length s * room_of kind ≤ length b
  pub inside : GotSays got s

abbrev pub BehindRead : Kind → Got → List ℕ → List ℕ → List ℕ → List ℕ → ℕ → List ℕ → Type 0
BehindRead kind (Bytes n) u s b v r b' = BlockSays (Said kind) (most_of kind) u (take n s) b v r b'
BehindRead kind Over u s b v r b' = EndSays (Said kind) u b r b'
BehindRead kind Failed u s b v r b' = (r ≡ 0) × (b' ≡ b) × (v ≡ u)

abbrev pub ReadAnswered : Kind → Got → List ℕ → List ℕ → List ℕ → List ℕ → List ℕ → Type 0
ReadAnswered kind got u s b v b' = (r : ℕ) × BehindRead kind got u s b v r b'

pub data TurnsMade (kind : Kind) : ℕ → List ℕ → Type 0 where
  none : TurnsMade kind 0 []
  more : {n : ℕ} {u : List ℕ} (k : ℕ) (s b v b' : List ℕ) → TurnsMade kind n u → ReadAnswered kind (Bytes k) u s b v b' → TurnsMade kind (suc n) v

pub record PumpSays (kind : Kind) (got : Got) (n : ℕ) (s b' : List ℕ) : Type 0 where
  pub held : List ℕ
  pub left : List ℕ
  pub buffer : List ℕ
  pub turns : TurnsMade kind n held
  pub answered : ReadAnswered kind got held s buffer left b'
