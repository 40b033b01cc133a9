-- To which shades a place of a prenecklace can be raised.
--     Barred u b rem           no word of exactly the letters that rem counts, of which b is the first, completes u to a necklace
--     Fitting u b rem          some such word does
--     Allows u b rem r         r is yes exactly where some such word does
--     Possible, LeftFrom, Liftable, Lifted, LiftedTo    what `possible`, `left_from` and `lift` ask and promise
use Rattle.std.specs.Prelude.{ℕ, suc, ◌+◌, ◌-◌, ◌<◌, ◌≤◌, ◌≡◌, Bool, true, false, List, [], ◌∷◌, ◌++◌, length, take, get_or}
use Rattle.words.specs.Sequence.{sec}
use Rattle.rings.specs.Necklace.{necklace, lyndon}
use Rattle.rings.specs.Prenecklace.{prenecklace}
use Rattle.rings.specs.Counts.{occurs}
use Rattle.words.specs.Sum.{sum_of}

-- no word of exactly the letters that rem counts, of which b is the first, completes u to a necklace
abbrev pub Barred : List ℕ → ℕ → List ℕ → Type 0
Barred u b rem = (v : List ℕ) → ((x : ℕ) → occurs x (b ∷ v) ≡ get_or rem x 0) → necklace (u ++ b ∷ v) ≡ true → ⊥

-- some such word does
pub record Fitting (u : List ℕ) (b : ℕ) (rem : List ℕ) : Type 0 where
  pub rest : List ℕ
  pub letters : (x : ℕ) → occurs x (b ∷ rest) ≡ get_or rem x 0
  pub whole : necklace (u ++ b ∷ rest) ≡ true

-- r is yes exactly where some such word does
pub record Allows (u : List ℕ) (b : ℕ) (rem : List ℕ) (r : Bool) : Type 0 where
  pub yes : r ≡ true → Fitting u b rem
  pub no : r ≡ false → Barred u b rem

-- the first l sectors of w with the shade b behind them are a Lyndon word
pub record Possible (w : List ℕ) (l b k : ℕ) (rem : List ℕ) : Type 0 where
  pub size : length w ≡ 64
  pub slots : length rem ≡ 16
  pub inside : l < 64
  pub shades : k ≤ 16
  pub shade : b < k
  pub past : (x : ℕ) → k ≤ x → get_or rem x 0 ≡ 0
  pub room : sum_of rem ≤ 64
  pub lyndon-al : lyndon (take l w ++ b ∷ []) ≡ true

-- r is the least shade from b on of which some is left, or k
pub record LeftFrom (rem : List ℕ) (b k r : ℕ) : Type 0 where
  pub from : b ≤ r
  pub most : r ≤ k
  pub none : (x : ℕ) → b ≤ x → x < r → get_or rem x 0 ≡ 0
  pub some : r < k → get_or rem r 0 ≡ 0 → ⊥

-- place l of w ends a prenecklace
pub record Liftable (w : List ℕ) (l k : ℕ) (rem : List ℕ) : Type 0 where
  pub size : length w ≡ 64
  pub slots : length rem ≡ 16
  pub inside : l < 64
  pub shades : k ≤ 16
  pub past : (x : ℕ) → k ≤ x → get_or rem x 0 ≡ 0
  pub room : sum_of rem ≤ 64
  pub pre : prenecklace (take (suc l) w) ≡ true
  pub low : sec w l < k

-- r is above the shade at place l of w, and each shade between is barred
pub record Lifted (w : List ℕ) (l k : ℕ) (rem : List ℕ) (r : ℕ) : Type 0 where
  pub above : sec w l < r
  pub most : r ≤ k
  pub barred : (b : ℕ) → sec w l < b → b < r → Barred (take l w) b rem

-- r is k, or some such word goes on with it
pub record LiftedTo (w : List ℕ) (l k : ℕ) (rem : List ℕ) (r : ℕ) : Type 0 where
  pub lifted : Lifted w l k rem r
  pub fitting : r < k → Fitting (take l w) r rem
