-- Which places of a prenecklace can be raised so that a ring of given counts begins so.
--     CountedRing cs n k v            v is a ring of n and k with the counts cs
--     Blocked cs n k w l b     no such ring agrees with w below place l and has the shade b there
--     Begun cs n k w l b       some such ring does
--     Past, Seeking            the places behind one are blocked, and what the counts leave beside the sectors before it
--     Headed w n p             where p is less than n, the first p sectors are a Lyndon word
--     PlaceFound               what `find` promises
-- What the counts leave beside some sectors: `shades_tally_inner`, specs/Remaining; to which shades a place can be raised: `shades_lift_inner`.
use Rattle.std.specs.Prelude.{ℕ, suc, ◌-◌, ◌<◌, ◌≤◌, ◌≡◌, true, List, take}
use Rattle.words.specs.Readings.{Reading}
use Rattle.words.specs.Sequence.{sec}
use Rattle.rings.specs.Counts.{counted_necklace}
use Rattle.ring_laws.specs.Run.{Lyn}
use Rattle.shades_tally_inner.specs.Remaining.{Remains}
use Rattle.shades_raise_inner.specs.declared.Place.{Place}

-- v is a ring of n and k with the counts cs
pub record CountedRing (cs : List ℕ) (n k : ℕ) (v : List ℕ) : Type 0 where
  pub reading : Reading n k v
  pub counted : counted_necklace cs v ≡ true

-- no such ring agrees with w below place l and has the shade b there
abbrev pub Blocked : List ℕ → ℕ → ℕ → List ℕ → ℕ → ℕ → Type 0
Blocked cs n k w l b = (v : List ℕ) → CountedRing cs n k v → ((m : ℕ) → m < l → sec v m ≡ sec w m) → sec v l ≡ b → ⊥

-- some such ring does
pub record Begun (cs : List ℕ) (n k : ℕ) (w : List ℕ) (l b : ℕ) : Type 0 where
  pub ring : List ℕ
  pub known : CountedRing cs n k ring
  pub agree : (m : ℕ) → m < l → sec ring m ≡ sec w m
  pub here : sec ring l ≡ b

-- each place from i on is blocked to each greater shade
pub record Past (w : List ℕ) (n k : ℕ) (cs : List ℕ) (i : ℕ) : Type 0 where
  pub within : i ≤ n
  pub blocked : (l b : ℕ) → i ≤ l → l < n → sec w l < b → b < k → Blocked cs n k w l b

-- each place behind i is blocked, and rem is what the counts leave beside the sectors before i
pub record Seeking (w : List ℕ) (n k : ℕ) (cs : List ℕ) (i : ℕ) (rem : List ℕ) : Type 0 where
  pub inside : i < n
  pub remains : Remains cs (take i w) rem
  pub past : Past w n k cs (suc i)

-- where p is less than n, the first p sectors are a Lyndon word
pub record Headed (w : List ℕ) (n p : ℕ) : Type 0 where
  pub some : p < n → 0 < p
  pub lyn : p < n → Lyn (sec w) p

-- each place from `end` on is blocked to each greater shade, and that before it up to the shade of the answer, with which some ring goes on
pub record PlaceFound (w : List ℕ) (n k : ℕ) (cs : List ℕ) (r : Place) : Type 0 where
  pub within : r.end ≤ n
  pub blocked : (l b : ℕ) → r.end ≤ l → l < n → sec w l < b → b < k → Blocked cs n k w l b
  pub above : 0 < r.end → sec w (r.end - 1) < r.shade
  pub known : 0 < r.end → r.shade < k
  pub between : (b : ℕ) → 0 < r.end → sec w (r.end - 1) < b → b < r.shade → Blocked cs n k w (r.end - 1) b
  pub begun : 0 < r.end → Begun cs n k w (r.end - 1) r.shade
