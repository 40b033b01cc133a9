-- What the functions promise.
--     LinePrints l                what the line l prints
use Rattle.std.specs.Prelude.{ℕ, List}
use Rattle.desk_spec.specs.Questions.{Replies}
use Rattle.picture_print_spec.specs.Prints.{ReadsTarget, PictureShows}
use Rattle.picture_words_inner.specs.Says.{PictureText}

abbrev pub LinePrints : List ℕ → List ℕ → ℕ → List ℕ → Type 0
LinePrints l b r b' = PictureText (Replies (ReadsTarget l) PictureShows) b r b'
