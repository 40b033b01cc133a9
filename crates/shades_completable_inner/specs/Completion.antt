-- What it is to complete a beginning to a necklace by letters of given counts.
--     Completing al rem    al is a Lyndon word, and the letters that rem counts have room
--     Hopeless al rem      no necklace begins with al and ends with exactly these letters
--     Hopeful al rem       a word with exactly these letters completes al to a necklace
--     Decides al rem r     r is yes exactly where there is such a word
--     Least rem r          r is the least letter of which some is left, or how many counts there are
--     Numbered rem r       letter b is counted at place 64 + b
--     Opened al rem b      b is the least letter that is left, and al begins with it and goes on
use Rattle.std.specs.Prelude.{ℕ, ◌+◌, ◌<◌, ◌≤◌, ◌≡◌, Bool, true, false, List, ◌++◌, length, get_or}
use Rattle.rings.specs.Necklace.{necklace, lyndon}
use Rattle.rings.specs.Counts.{occurs}
use Rattle.words.specs.Sum.{sum_of}

-- al is a Lyndon word, and the letters that rem counts have room
pub record Completing (al rem : List ℕ) : Type 0 where
  pub lyndon-al : lyndon al ≡ true
  pub small : length al ≤ 64
  pub shades : length rem ≤ 16
  pub room : sum_of rem ≤ 64

-- no necklace begins with al and ends with exactly these letters, whatever stands between
abbrev pub Hopeless : List ℕ → List ℕ → Type 0
Hopeless al rem = (u v : List ℕ) → ((b : ℕ) → occurs b v ≡ get_or rem b 0) → necklace (al ++ (u ++ v)) ≡ true → ⊥

-- a word with exactly these letters completes al to a necklace
pub record Hopeful (al rem : List ℕ) : Type 0 where
  pub rest : List ℕ
  pub letters : (b : ℕ) → occurs b rest ≡ get_or rem b 0
  pub whole : necklace (al ++ rest) ≡ true

-- r is yes exactly where there is such a word; where there is none, not even a longer beginning helps
pub record Decides (al rem : List ℕ) (r : Bool) : Type 0 where
  pub yes : r ≡ true → Hopeful al rem
  pub no : r ≡ false → Hopeless al rem

-- r is the least letter of which some is left, or how many counts there are
pub record Least (rem : List ℕ) (r : ℕ) : Type 0 where
  pub within : r ≤ length rem
  pub none : (x : ℕ) → x < r → get_or rem x 0 ≡ 0
  pub some : r < length rem → get_or rem r 0 ≡ 0 → ⊥

-- letter b is counted at place 64 + b
abbrev pub Numbered : List ℕ → List ℕ → Type 0
Numbered rem r = (b : ℕ) → b < length rem → get_or r (64 + b) 0 ≡ get_or rem b 0

-- b is the least letter that is left, and al begins with it and goes on
pub record Opened (al rem : List ℕ) (b : ℕ) : Type 0 where
  pub completing : Completing al rem
  pub least : Least rem b
  pub left : b < length rem
  pub begins : get_or al 0 0 ≡ b
  pub long : 1 < length al
