-- The beginnings of bracelets (02, request c; 004, Definition 2 and Lemma 1).
--     filled n k u             u, filled up with the highest shade, k - 1, to n sectors
--     BeginsBracelet n k u     u is a beginning, possibly the whole, of some bracelet of n sectors and k shades
--     tried k w l b            the first l sectors of w, then b, filled up
--     Leads k w c m            the first m sectors of c lead to the next bracelet after w, and c is they, filled up
-- That u begins a bracelet exactly where u, filled up, is one: proofs/Absorb, `begins-iff`.
use Rattle.std.specs.Prelude.{ℕ, ◌-◌, ◌<◌, ◌≤◌, ◌≡◌, true, List, [], ◌∷◌, ◌++◌, length, get_or, take, replicate}
use Rattle.words.specs.Order.{before}
use Rattle.words.specs.Readings.{Reading}
use Rattle.words.specs.Sequence.{sec, Less}
use Rattle.rings.specs.Alike.{bracelet}

-- u, filled up with the highest shade to n sectors
unfoldable pub filled : ℕ → ℕ → List ℕ → List ℕ
filled n k u = u ++ replicate (n - length u) (k - 1)

-- u begins, or is, some bracelet of n sectors and k shades
pub record BeginsBracelet (n k : ℕ) (u : List ℕ) : Type 0 where
  pub rest : List ℕ
  pub reading : Reading n k (u ++ rest)
  pub whole : bracelet (u ++ rest) ≡ true

-- the first l sectors of w, then b, filled up
unfoldable pub tried : ℕ → List ℕ → ℕ → ℕ → List ℕ
tried k w l b = filled (length w) k (take l w ++ (b ∷ []))

-- the first m sectors of c lead to the next bracelet after w, and c is they, filled up
pub record Leads (k : ℕ) (w c : List ℕ) (m : ℕ) : Type 0 where
  pub reading : Reading (length w) k c
  pub whole : bracelet c ≡ true
  pub inside : m ≤ length w
  pub full : (j : ℕ) → m ≤ j → j < length w → get_or c j 0 ≡ k - 1
  pub above : Less (sec w) (sec c) m
  pub least : (v : List ℕ) → Reading (length w) k v → bracelet v ≡ true → before w v ≡ true → Less (sec v) (sec c) m → ⊥
