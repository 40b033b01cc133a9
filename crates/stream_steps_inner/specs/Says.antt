-- One byte more of a line, and whether another read follows.
--     ByteHeld c m w n w'         the byte c, behind the first m bytes of the buffer w, is put behind them where there is room, and else passed over; n bytes are
--                                 held then, in w'
--     HeldSays c m w r w'         a newline ends the line, of which then nothing is held (None), and any other byte is kept so
--     GoesOn wrote got reads r    r: does it go on? Where bytes were read and their texts written, unless 2 to the power 64 reads were made
use Rattle.std.specs.Prelude.{ℕ, ◌+◌, ◌<◌, ◌≤◌, ◌≡◌, Bool, true, false, List, length, set, Option, Some, None}
use Rattle.text_spec.specs.Ascii.{newline}
use Rattle.program_reading_inner.specs.declared.Got.{Got}
use Rattle.program_reading_inner.specs.declared.Got.TheVariants.{Bytes, Over, Failed}

pub data ByteHeld (c m : ℕ) (w : List ℕ) (n : ℕ) (w' : List ℕ) : Type 0 where
  put : m < length w → n ≡ m + 1 → w' ≡ set w m c → ByteHeld c m w n w'
  passed : length w ≤ m → n ≡ m → w' ≡ w → ByteHeld c m w n w'

abbrev pub HeldSays : ℕ → ℕ → List ℕ → Option ℕ → List ℕ → Type 0
HeldSays c m w None w' = (c ≡ newline) × (w' ≡ w)
HeldSays c m w (Some n) w' = (c ≡ newline → ⊥) × ByteHeld c m w n w'

abbrev pub GoesOn : Bool → Got → ℕ → Bool → Type 0
GoesOn true (Bytes n) reads true = reads < 18446744073709551615
GoesOn true (Bytes n) reads false = reads ≡ 18446744073709551615
GoesOn true Over reads r = r ≡ false
GoesOn true Failed reads r = r ≡ false
GoesOn false got reads r = r ≡ false
