-- What taking the bytes of a block promises. u is what is kept of the line under way before, l' what the lent line holds afterwards; b is the buffer before, b' afterwards; n lines
-- ended before.
--     RefusedIn x u s n r m       behind the bytes s, whose lines all write, the line under way is refused with r, and m is its number
--     LinedSays                   the bytes s of a block: their records, as in `stream_spec`, specs/Blocks; or the first refused line
use Rattle.std.specs.Prelude.{ℕ, ◌+◌, ◌<◌, ◌≤◌, ◌≡◌, List, length, get_or, take, Result, Ok, Err}
use Rattle.text_spec.specs.Ascii.{newline}
use Rattle.refusal.specs.declared.Refusal.{Refusal}
use Rattle.record_spec.specs.declared.Kind.{Kind}
use Rattle.stream_spec.specs.Lines.{ended, under}
use Rattle.stream_spec.specs.Texts.{Texts}
use Rattle.stream_spec.specs.Blocks.{BlockSays}
use Rattle.files_write_spec.specs.RingLines.{most_kept, LineWrites, LineRefused}
use Rattle.files_write_byte_inner.specs.declared.Lined.{Lined}
use Rattle.files_write_byte_inner.specs.declared.BadLine.{BadLine}

pub record RefusedIn (x : Kind) (u s : List ℕ) (n : ℕ) (r : Refusal) (m : ℕ) : Type 0 where
  pub text : List ℕ
  pub writes : Texts (LineWrites x) (ended u s) text
  pub refused : LineRefused (take most_kept (under u s)) r
  pub number : m ≡ n + length (ended u s) + 1

abbrev pub LinedSays : Kind → List ℕ → List ℕ → List ℕ → ℕ → Result Lined BadLine → List ℕ → List ℕ → Type 0
LinedSays x u s b n (Ok v) l' b' = (v.len ≤ length l') × BlockSays (LineWrites x) most_kept u s b (take v.len l') v.at b' × (v.lines ≡ n + length (ended u s))
LinedSays x u s b n (Err r) l' b' = (i : ℕ) × (i < length s) × (get_or s i 0 ≡ newline) × RefusedIn x u (take i s) n r.why r.number
