-- The three kinds of step, and what a prenecklace is by its lyn (002, section 2).
--     kind_of kind                     the test that a kind stands for
--     kind_at kind n p, class_at n p    whether a prenecklace of n sectors whose lyn is p is of the kind, and its class
--     ReadyToStep k ring              what a step asks of its ring
use Rattle.std.specs.Prelude.{ℕ, ◌%◌, ◌≤◌, ◌<◌, ◌≡◌, Bool, true, false, List, length, eqb}
use Rattle.words.specs.Readings.{Reading}
use Rattle.rings.specs.declared.Class.{Class}
use Rattle.rings.specs.declared.Class.TheVariants.{Opening, Repeating, Single}
use Rattle.rings.specs.Necklace.{necklace, lyndon}
use Rattle.rings.specs.Prenecklace.{prenecklace}
use Rattle.walk_kind_laws.specs.declared.Kind.{Kind}
use Rattle.walk_kind_laws.specs.declared.Kind.TheVariants.{Prenecklace, Necklace, Lyndon}

-- the test that a kind stands for
unfoldable pub kind_of : Kind → List ℕ → Bool
kind_of Prenecklace = prenecklace
kind_of Necklace = necklace
kind_of Lyndon = lyndon

-- a prenecklace of n sectors whose lyn is p is of the kind
abbrev pub kind_at : Kind → ℕ → ℕ → Bool
kind_at Prenecklace n p = true
kind_at Necklace n p = eqb (n % p) 0
kind_at Lyndon n p = eqb p n

-- the class of a prenecklace of n sectors whose lyn is p
unfoldable pub class_at : ℕ → ℕ → Class
class_at n p = elim (eqb p n) [ true ↦ Single | false ↦ elim (eqb (n % p) 0) [ true ↦ Repeating p | false ↦ Opening p ] ]

-- the ring is a prenecklace of k shades
pub record ReadyToStep (k : ℕ) (ring : List ℕ) : Type 0 where
  pub pos : 0 < length ring
  pub fits : length ring ≤ 64
  pub shades : 2 ≤ k
  pub few : k ≤ 16
  pub reading : Reading (length ring) k ring
  pub pre : prenecklace ring ≡ true
