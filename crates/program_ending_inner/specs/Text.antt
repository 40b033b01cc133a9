-- What a program says on standard error, by how its run ended.
--     ending_text e         the text: nothing where all of the output was written; `refused 9 at 4`, or why in words
--     say_room              no text is longer
--     EndingSaid e b r b'  the text of e stands at the beginning of the buffer b', which held b before, and has r bytes
--     SaySays e b r b'     the same; where b has no room for the longest text nothing is written
-- Texts written out: proofs/Samples. That no two answers satisfy it: proofs/Unique.
use Rattle.std.specs.Prelude.{ℕ, ◌<◌, ◌≤◌, ◌≡◌, List, [], length}
use Rattle.text_spec.specs.Ascii.{ascii}
use Rattle.text_spec.specs.Text.{two_numbers}
use Rattle.text_spec.specs.Put.{Placed}
use Rattle.program_ending_inner.specs.declared.Ending.{Ending}
use Rattle.program_ending_inner.specs.declared.Ending.TheVariants.{Whole, Refused, Unread, Unwritten, TooLong, NoFile, Lost, Changed}

unfoldable pub ending_text : Ending → List ℕ
ending_text Whole = []
ending_text (Refused x p) = two_numbers (ascii "refused ") x (ascii " at ") p
ending_text Unread = ascii "not whole: the input could not be read\n"
ending_text Unwritten = ascii "not whole: the output could not be written\n"
ending_text TooLong = ascii "not whole: the input is too long\n"
ending_text NoFile = ascii "not begun: the input is no file that is read from its beginning\n"
ending_text Lost = ascii "not whole: the input could not be read a second time\n"
ending_text Changed = ascii "not whole: the input was not the same when it was read a second time\n"

abbrev pub say_room : ℕ
say_room = 80

pub record EndingSaid (e : Ending) (b : List ℕ) (r : ℕ) (b' : List ℕ) : Type 0 where
  pub fits : length (ending_text e) ≤ say_room
  pub placed : Placed b 0 (ending_text e) r b'

pub data SaySays (e : Ending) (b : List ℕ) (r : ℕ) (b' : List ℕ) : Type 0 where
  small : length b < say_room → r ≡ 0 → b' ≡ b → SaySays e b r b'
  said : say_room ≤ length b → EndingSaid e b r b' → SaySays e b r b'
