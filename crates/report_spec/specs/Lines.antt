-- What the report prints for an input (02, request f).
--     counts_line x y     6 3: the necklaces, a space, the Lyndon words
--     Answers s text     text is what the line s, without its newline, prints: the two numbers, or the line of its refusal as in the listing program
--     Reports s text     text is what the input s prints: its lines (`stream_spec`, Lines), one after another
-- That an input prints one text: proofs/Unique.
use Rattle.std.specs.Prelude.{ℕ, ◌≡◌, List, ◌++◌, Ok, Err}
use Rattle.rings.specs.Necklace.{necklace, lyndon}
use Rattle.rings.specs.Steps.{how_many}
use Rattle.refusal.specs.declared.Refusal.{Refusal}
use Rattle.refusal.specs.Numbers.{number_of}
use Rattle.text_spec.specs.Ascii.{ascii}
use Rattle.text_spec.specs.Decimal.{decimal}
use Rattle.text_spec.specs.Text.{refused_line}
use Rattle.plan_spec.specs.Plan.{PlanSays}
use Rattle.how_many_spec.specs.Says.{most_counted}
use Rattle.stream_spec.specs.Texts.{Prints}

-- the necklaces, a space, the Lyndon words
unfoldable pub counts_line : ℕ → ℕ → List ℕ
counts_line x y = decimal x ++ ascii " " ++ decimal y ++ ascii "\n"

-- what one line prints
pub data Answers (s text : List ℕ) : Type 0 where
  counted : (k n : ℕ) → PlanSays most_counted s (Ok (k, n)) → text ≡ counts_line (how_many necklace n k) (how_many lyndon n k) → Answers s text
  refused : (r : Refusal) → PlanSays most_counted s (Err r) → text ≡ refused_line (number_of r) → Answers s text

-- ---- what an input prints

abbrev pub Reports : List ℕ → List ℕ → Type 0
Reports s text = Prints Answers s text
