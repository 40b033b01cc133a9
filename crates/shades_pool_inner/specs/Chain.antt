-- Words of the pool as chains of nodes. Nodes from `first` on are the letters, letter b at 64 + b. A node before `first` is a beginning of al, as long as `pre` says, and then
-- the word of the node that `next` names, which stands behind it.
--     Agree v w r                          v and w agree in r letters, and one of them ends there or they differ there
--     Spelled al pre next first f word     word tells the word of each node from f on
--     Chained al pre next first g a        node g has a word, and a is less than the length of al
--     Ranked al v r                        how v compares with al: r is 0, or the length of v, or that of al
--     Compares ..                          the same of the first a letters of al and the word of node g
use Rattle.std.specs.Prelude.{ℕ, ◌-◌, ◌<◌, ◌≤◌, ◌≡◌, false, List, [], ◌∷◌, ◌++◌, length, get_or, take}
use Rattle.words.specs.Order.{before}
use Rattle.shades_laws.specs.Under.{◌≪◌}

-- v and w agree in r letters, and one of them ends there or they differ there
pub record Agree (v w : List ℕ) (r : ℕ) : Type 0 where
  pub here : r ≤ length v
  pub there : r ≤ length w
  pub same : (m : ℕ) → m < r → get_or v m 0 ≡ get_or w m 0
  pub stops : r < length v → r < length w → get_or v r 0 ≡ get_or w r 0 → ⊥

-- word tells the word of each node from f on
pub record Spelled (al pre next : List ℕ) (first f : ℕ) (word : ℕ → List ℕ) : Type 0 where
  pub letter : (i : ℕ) → first ≤ i → i < 80 → word i ≡ (i - 64) ∷ []
  pub node : (i : ℕ) → f ≤ i → i < first → word i ≡ take (get_or pre i 0) al ++ word (get_or next i 0)
  pub onward : (i : ℕ) → f ≤ i → i < first → i < get_or next i 0
  pub inside : (i : ℕ) → f ≤ i → i < first → get_or next i 0 < 80
  pub short : (i : ℕ) → f ≤ i → i < first → get_or pre i 0 ≤ length al

-- node g has a word, and a is less than the length of al
pub record Chained (al pre next : List ℕ) (first g a : ℕ) : Type 0 where
  pub word : ℕ → List ℕ
  pub spelled : Spelled al pre next first g word
  pub low : 64 ≤ first
  pub slots : first ≤ length pre
  pub links : first ≤ length next
  pub known : g < 80
  pub within : a < length al

-- how v compares with al
pub record Ranked (al v : List ℕ) (r : ℕ) : Type 0 where
  pub under : r ≡ 0 → v ≪ al
  pub begins : 0 < r → r < length al → v ≡ take r al
  pub over : length al ≤ r → before v al ≡ false

-- the same of the first a letters of al and the word of node g
abbrev pub Compares : List ℕ → List ℕ → List ℕ → ℕ → ℕ → ℕ → ℕ → Type 0
Compares al pre next first g a r = (word : ℕ → List ℕ) → Spelled al pre next first g word → Ranked al (take a al ++ word g) r
