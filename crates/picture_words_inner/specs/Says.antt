-- What the functions promise.
--     PictureText P b r b'        a text of which P holds stands at the beginning of the buffer, and is no longer than a picture may be
--     TargetPrinted k w tone      what k, the reading w and the tone print
--     SpeltPrinted k t tone       the same, where the digits t spell the reading
--     WordsPrinted k t            the same, where t is what stands behind the number
use Rattle.std.specs.Prelude.{ℕ, List, [], ◌∷◌, map, ◌≡◌}
use Rattle.text_spec.specs.Ascii.{space}
use Rattle.text_spec.specs.Text.{hex_of}
use Rattle.text_words_spec.specs.Words.{pieces, Nibbles, Spelt}
use Rattle.stream_spec.specs.Blocks.{Puts}
use Rattle.picture_spec.specs.declared.Tone.{Tone}
use Rattle.picture_spec.specs.Says.{picture_room}
use Rattle.desk_spec.specs.Questions.{Replies}
use Rattle.picture_print_spec.specs.Prints.{tone_words, PictureShows}

abbrev pub PictureText : (List ℕ → Type 0) → List ℕ → ℕ → List ℕ → Type 0
PictureText P b r b' = Puts P picture_room b 0 r b'

abbrev pub TargetPrinted : ℕ → List ℕ → Tone → List ℕ → ℕ → List ℕ → Type 0
TargetPrinted k w tone b r b' = PictureText (PictureShows (k, w, tone)) b r b'

abbrev pub SpeltPrinted : ℕ → List ℕ → Tone → List ℕ → ℕ → List ℕ → Type 0
SpeltPrinted k t tone b r b' = PictureText (Replies (Spelt t) (λ w. PictureShows (k, w, tone))) b r b'

-- a reading and the words of a tone
pub record ReadsTone (t : List ℕ) (q : List ℕ × Tone) : Type 0 where
  pub sectors : Nibbles q.0
  pub words : pieces space t ≡ map hex_of q.0 ∷ tone_words q.1

abbrev pub WordsPrinted : ℕ → List ℕ → List ℕ → ℕ → List ℕ → Type 0
WordsPrinted k t b r b' = PictureText (Replies (ReadsTone t) (λ q. PictureShows (k, q.0, q.1))) b r b'
