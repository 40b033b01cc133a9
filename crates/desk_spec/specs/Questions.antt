-- The words behind a verb, one space between two. A number is read as the listing's line reads one: in decimal, one to three digits, no leading zero.
--     ThreeDigits k              k has at most three digits
--     EachNibbles ts       each of the readings ts can be spelt
--     words_of ts r         the words that spell the rings ts and the reading r behind them
--     ReadsReading t q     t is k and a reading
--     ReadsPair t q        t is k and two readings
--     ReadsNumbers t q     t is two numbers, as the listing's line has them
--     ReadsByte t b        t is a byte, in decimal
--     ReadsSight t q       t is k, how many sectors may be misread, rings and, last, a reading
--     CountsSpelt t cs     t is the numbers cs, one at least, a comma between two
--     ReadsCounts t q      t is k and counts
--     ReadsAfter t q       t is k, a reading and counts
--     ReadsShade t q       t is k and, by their bits, the dark and the light field of a card and one value or more
--     Replies Reads Says     what a text prints that asks a question q of some shape, where `Says q` is what the question prints; a text that asks none is malformed
-- That a text asks one question, and prints one text: proofs/Unique.
use Rattle.std.specs.Prelude.{ℕ, ◌<◌, ◌≤◌, ◌≡◌, List, [], ◌∷◌, ◌++◌, map, length, get_or}
use Rattle.text_spec.specs.Ascii.{space}
use Rattle.text_spec.specs.Decimal.{decimal}
use Rattle.text_spec.specs.Text.{hex_of}
use Rattle.line_spec.specs.Line.{fields}
use Rattle.text_words_spec.specs.Words.{pieces, Nibbles}
use Rattle.desk_spec.specs.Texts.{malformed_text}
use Rattle.desk_spec.specs.Sights.{AsLong}

abbrev pub ThreeDigits : ℕ → Type 0
ThreeDigits k = k < 1000

-- each of some readings can be spelt
abbrev pub EachNibbles : List (List ℕ) → Type 0
EachNibbles ts = (j : ℕ) → j < length ts → Nibbles (get_or ts j [])

-- the words that spell some rings and a reading behind them
abbrev pub words_of : List (List ℕ) → List ℕ → List (List ℕ)
words_of ts r = map (map hex_of) (ts ++ (r ∷ []))

-- k and a reading
pub record ReadsReading (t : List ℕ) (q : ℕ × List ℕ) : Type 0 where
  pub short : ThreeDigits q.0
  pub sectors : Nibbles q.1
  pub words : pieces space t ≡ decimal q.0 ∷ map hex_of q.1 ∷ []

-- k and two readings
pub record ReadsPair (t : List ℕ) (q : ℕ × List ℕ × List ℕ) : Type 0 where
  pub short : ThreeDigits q.0
  pub sectors : Nibbles q.1
  pub others : Nibbles q.2
  pub words : pieces space t ≡ decimal q.0 ∷ map hex_of q.1 ∷ map hex_of q.2 ∷ []

-- two numbers
pub record ReadsNumbers (t : List ℕ) (q : ℕ × ℕ) : Type 0 where
  pub short : ThreeDigits q.0
  pub second : ThreeDigits q.1
  pub words : t ≡ fields q.0 q.1

-- a byte
pub record ReadsByte (t : List ℕ) (b : ℕ) : Type 0 where
  pub fits : b < 256
  pub words : t ≡ decimal b

-- k, how many sectors may be misread, any number of rings, and a reading behind them
pub record ReadsSight (t : List ℕ) (q : ℕ × ℕ × List (List ℕ) × List ℕ) : Type 0 where
  pub short : ThreeDigits q.0
  pub second : ThreeDigits q.1
  pub rings : EachNibbles q.2
  pub sectors : Nibbles q.3
  pub words : pieces space t ≡ decimal q.0 ∷ decimal q.1 ∷ words_of q.2 q.3

-- what stands between two counts
abbrev pub comma : ℕ
comma = 44

-- counts: a text has a piece at least
pub record CountsSpelt (t cs : List ℕ) : Type 0 where
  pub each : (i : ℕ) → i < length cs → ThreeDigits (get_or cs i 0)
  pub numbers : pieces comma t ≡ map decimal cs

-- k and counts
pub record ReadsCounts (t : List ℕ) (q : ℕ × List ℕ) : Type 0 where
  pub short : ThreeDigits q.0
  pub word : List ℕ
  pub counts : CountsSpelt word q.1
  pub words : pieces space t ≡ decimal q.0 ∷ word ∷ []

-- k, a reading and counts
pub record ReadsAfter (t : List ℕ) (q : ℕ × List ℕ × List ℕ) : Type 0 where
  pub short : ThreeDigits q.0
  pub sectors : Nibbles q.1
  pub word : List ℕ
  pub counts : CountsSpelt word q.2
  pub words : pieces space t ≡ decimal q.0 ∷ map hex_of q.1 ∷ word ∷ []

-- k, a card and values, eight digits each
pub record ReadsShade (t : List ℕ) (q : ℕ × List (List ℕ)) : Type 0 where
  pub short : ThreeDigits q.0
  pub digits : EachNibbles q.1
  pub eight : AsLong 8 q.1
  pub three : 3 ≤ length q.1
  pub words : pieces space t ≡ decimal q.0 ∷ map (map hex_of) q.1

-- what a text prints: what its question does, or that it asks none
pub data Replies {Q : Type 0} (Reads : Q → Type 0) (Says : Q → List ℕ → Type 0) (text : List ℕ) : Type 0 where
  good : (q : Q) → Reads q → Says q text → Replies Reads Says text
  bad : ((q : Q) → Reads q → ⊥) → text ≡ malformed_text → Replies Reads Says text
