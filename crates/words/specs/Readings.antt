-- What a reading is, and all readings of n sectors and k shades in increasing order (01, 'What the catalogue covers').
--     Sized n, Shaded k    n is 1 to 64, k is 2 to 16
--     Reading n k w        w has n sectors, each below k
--     readings n k         every reading of n and k, in increasing order
--     count f ws           how many of the list pass the test f
--     first f ws           the first of the list that passes, or none
--     All P ws             P holds of each word of the list
--     Increasing ws        each word of the list is before all that follow it
-- That `readings n k` holds each reading exactly once, nothing else, and in increasing order: proofs/Readings.
use Rattle.std.specs.Prelude.{ℕ, zero, suc, ◌+◌, ◌≤◌, ◌<◌, ◌≡◌, Bool, true, false, List, [], ◌∷◌, ◌++◌, map, length, get_or}
use Rattle.std.proofs.Math.Option.{Option, none, some}
use Rattle.words.specs.Order.{before}

-- a ring has 1 to 64 sectors
abbrev pub Sized : ℕ → Type 0
Sized n = (1 ≤ n) × (n ≤ 64)

-- there are 2 to 16 shades
abbrev pub Shaded : ℕ → Type 0
Shaded k = (2 ≤ k) × (k ≤ 16)

-- w has n sectors, and each is one of the shades 0 to k - 1
pub record Reading (n k : ℕ) (w : List ℕ) : Type 0 where
  pub long : length w ≡ n
  pub shades : (i : ℕ) → i < n → get_or w i 0 < k

-- each shade below d in front of each word of the list: first all with shade 0, then all with shade 1, and so on
unfoldable pub fan : ℕ → List (List ℕ) → List (List ℕ)
fan zero ws = []
fan (suc d) ws = fan d ws ++ map (λ w. d ∷ w) ws

-- all readings of n sectors and k shades
unfoldable pub readings : ℕ → ℕ → List (List ℕ)
readings zero k = [] ∷ []
readings (suc n) k = fan k (readings n k)

-- a test that passes counts 1
abbrev pub bit : Bool → ℕ
bit true = 1
bit false = 0

-- the sum of f over the list
unfoldable pub total : (List ℕ → ℕ) → List (List ℕ) → ℕ
total f [] = 0
total f (w ∷ ws) = f w + total f ws

-- how many of the list pass
abbrev pub count : (List ℕ → Bool) → List (List ℕ) → ℕ
count f ws = total (λ w. bit (f w)) ws

-- the first of the list that passes
unfoldable pub first : (List ℕ → Bool) → List (List ℕ) → Option (List ℕ)
first f [] = none
first f (w ∷ ws) = elim (f w) [ true ↦ some w | false ↦ first f ws ]

-- P holds of each word of the list
pub data All (P : List ℕ → Type 0) : List (List ℕ) → Type 0 where
  nothing : All P []
  also : {w : List ℕ} {ws : List (List ℕ)} → P w → All P ws → All P (w ∷ ws)

-- each word of the list is before all that follow it
pub data Increasing : List (List ℕ) → Type 0 where
  empty : Increasing []
  more : {w : List ℕ} {ws : List (List ℕ)} → All (λ v. before w v ≡ true) ws → Increasing ws → Increasing (w ∷ ws)
