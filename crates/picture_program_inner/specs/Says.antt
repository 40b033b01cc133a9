-- What the part of the program that makes the bytes promises.
--     PictureInputSays      the output for the input that was read to `line`; none, and the buffer as it was, where a read failed or the input is too long
use Rattle.std.specs.Prelude.{ℕ, ◌≡◌, List, take}
use Rattle.program_reading_inner.specs.declared.Most.{Most}
use Rattle.program_reading_inner.specs.declared.Most.TheVariants as M
use Rattle.picture_print_spec.specs.Prints.{PicturePrints}
use Rattle.picture_words_inner.specs.Says.{PictureText}

abbrev pub PictureInputSays : Most → List ℕ → List ℕ → ℕ → List ℕ → Type 0
PictureInputSays M.Full line b r b' = (r ≡ 0) × (b' ≡ b)
PictureInputSays (M.Ended got) line b r b' = PictureText (PicturePrints (take got line)) b r b'
PictureInputSays M.Failed line b r b' = (r ≡ 0) × (b' ≡ b)
