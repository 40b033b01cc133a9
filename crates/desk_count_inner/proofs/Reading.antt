-- A byte that a text asks for.
--     byte, no_byte, great     a byte
use Rattle.words.proofs.Plain.{ℕ, ◌<◌, arith, sym, ◌∙◌, List}
use Rattle.text_spec.proofs.Digits.{decimal-one}
use Rattle.std.specs.Prelude.{Some, None}
use Rattle.line_spec.specs.Line.{NumberSays}
use Rattle.desk_spec.specs.Questions.{ReadsByte}

module _ (t : List ℕ) where
  pub byte : (b : ℕ) → NumberSays t (Some b) → b < 256 → ReadsByte t b
  byte b f h = record { fits = h; words = f.1 }

  pub no_byte : NumberSays t None → (b : ℕ) → ReadsByte t b → ⊥
  no_byte f b x = f b (omega (arith, x.fits)) x.words

  -- a number that is no byte
  pub great : (b : ℕ) → NumberSays t (Some b) → 255 < b → (c : ℕ) → ReadsByte t c → ⊥
  great b f h c x = omega (arith, h, x.fits, decimal-one b c (sym f.1 ∙ x.words))
