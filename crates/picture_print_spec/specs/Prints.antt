-- What the command for one target reads, `K READING`, with `levels` behind it for levels in proportion, and what it prints: the picture, or a refusal's line.
--     ToneAsked              k, a reading and a tone
--     tone_words tone         the words that ask for a tone: none, or `levels`
--     ReadsTarget l q        the line l asks for the picture of q
--     ReadsPicture s q       the input s is that line, with or without a newline behind it
--     PictureShows q t       t is what q prints: the picture's text, or that of the first refusal of a reading, 1, 2 or 3
--     PicturePrints s t      t is what the input s prints: that, or `refused 11 at 0`
-- That an input prints one text: proofs/Unique.
use Rattle.std.specs.Prelude.{ℕ, ◌+◌, ◌≤◌, ◌≡◌, List, [], ◌∷◌, map, length, take}
use Rattle.text_spec.specs.Ascii.{ascii, space, newline}
use Rattle.text_spec.specs.Decimal.{decimal}
use Rattle.text_spec.specs.Text.{hex_of}
use Rattle.text_words_spec.specs.Words.{pieces, PieceAt, Nibbles}
use Rattle.refusal.specs.declared.Refusal.{Refusal}
use Rattle.refusal.specs.Order.{Passed, Given}
use Rattle.refusal.specs.Calls.{one_reading}
use Rattle.picture_spec.specs.declared.Tone.{Tone}
use Rattle.picture_spec.specs.declared.Tone.TheVariants.{Managed, Levels}
use Rattle.picture_spec.specs.Text.{picture_text}
use Rattle.desk_spec.specs.Texts.{refusal_text}
use Rattle.desk_spec.specs.Questions.{ThreeDigits, Replies}

abbrev pub ToneAsked : Type 0
ToneAsked = ℕ × List ℕ × Tone

abbrev pub tone_words : Tone → List (List ℕ)
tone_words Managed = []
tone_words Levels = ascii "levels" ∷ []

pub record ReadsTarget (l : List ℕ) (q : ToneAsked) : Type 0 where
  pub short : ThreeDigits q.0
  pub sectors : Nibbles q.1
  pub words : pieces space l ≡ decimal q.0 ∷ map hex_of q.1 ∷ tone_words q.2

pub record ReadsPicture (s : List ℕ) (q : ToneAsked) : Type 0 where
  pub at : ℕ
  pub ends : PieceAt newline s at
  pub alone : length s ≤ at + 1
  pub line : ReadsTarget (take at s) q

pub data PictureShows (q : ToneAsked) (t : List ℕ) : Type 0 where
  drawn : Passed (one_reading q.1 q.0) → t ≡ picture_text q.2 q.0 q.1 → PictureShows q t
  refused : (r : Refusal) → Given (one_reading q.1 q.0) r → t ≡ refusal_text r → PictureShows q t

abbrev pub PicturePrints : List ℕ → List ℕ → Type 0
PicturePrints s t = Replies (ReadsPicture s) PictureShows t
