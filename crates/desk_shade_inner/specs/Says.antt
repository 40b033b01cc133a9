-- What the parts of `shade` promise.
--     FloatsTold k s text     what the floats print whose bits the digits s write, end to end
--     ReadsFloats u ts        the words of u are three or more, of eight digits each
--     ShadesAsked k ts text   what the floats print whose bits the words ts write
use Rattle.std.specs.Prelude.{ℕ, ◌≤◌, ◌≡◌, List, map, length}
use Rattle.text_spec.specs.Ascii.{space}
use Rattle.text_spec.specs.Text.{hex_of}
use Rattle.text_words_spec.specs.Words.{pieces}
use Rattle.sight_spec.specs.Rings.{rings_in}
use Rattle.desk_spec.specs.Floats.{float_of}
use Rattle.desk_spec.specs.Sights.{AsLong}
use Rattle.desk_spec.specs.Questions.{EachNibbles}
use Rattle.desk_spec.specs.Answers.{ShadesSays}

abbrev pub ShadesAsked : ℕ → List (List ℕ) → List ℕ → Type 0
ShadesAsked k ts text = ShadesSays k (map float_of ts) text

abbrev pub FloatsTold : ℕ → List ℕ → List ℕ → Type 0
FloatsTold k s text = ShadesAsked k (rings_in 8 s) text

pub record ReadsFloats (u : List ℕ) (ts : List (List ℕ)) : Type 0 where
  pub digits : EachNibbles ts
  pub eight : AsLong 8 ts
  pub three : 3 ≤ length ts
  pub words : pieces space u ≡ map (map hex_of) ts
