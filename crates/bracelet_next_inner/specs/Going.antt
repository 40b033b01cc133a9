-- What the functions of this crate ask for and come to. These words serve the code alone.
--     ByteReading k w         w is a reading of k shades, two or more that fit into a byte, of one sector at least
--     BraceletLifted k w r v          the first r sectors of v lead to the next bracelet after w; where r is 0 there is none
--     Led k c m, Completed k c m v     the first m sectors of c lead to the next bracelet after some reading; it is v, whatever reading that is
--     NextBraceletSays k w r v        the answer r: v is the next bracelet after w, or there is none
use Rattle.std.specs.Prelude.{ℕ, ◌<◌, ◌≡◌, Bool, true, false, List, length}
use Rattle.std.proofs.Math.Option.{none, some}
use Rattle.words.specs.Readings.{Reading}
use Rattle.rings.specs.Steps.{next_of}
use Rattle.rings.specs.Alike.{bracelet}
use Rattle.bracelet_laws.specs.Beginnings.{Leads}

-- a reading of k shades, two or more that fit into a byte, of one sector at least
pub record ByteReading (k : ℕ) (w : List ℕ) : Type 0 where
  pub pos : 0 < length w
  pub some-shades : 1 < k
  pub shades : k < 256
  pub reading : Reading (length w) k w

-- the first r sectors of v lead to the next bracelet, or there is none
pub record BraceletLifted (k : ℕ) (w : List ℕ) (r : ℕ) (v : List ℕ) : Type 0 where
  pub none_above : r ≡ 0 → next_of bracelet k w ≡ none
  pub leads : 0 < r → Leads k w v r

-- the first m sectors of c lead to the next bracelet after some reading
abbrev pub Led : ℕ → List ℕ → ℕ → Type 0
Led k c m = (w : List ℕ) × Leads k w c m

-- the next bracelet after any reading to whose next bracelet they lead is v
abbrev pub Completed : ℕ → List ℕ → ℕ → List ℕ → Type 0
Completed k c m v = (w : List ℕ) → Leads k w c m → next_of bracelet k w ≡ some v

-- the next bracelet after w is v, or there is none
abbrev pub NextBraceletSays : ℕ → List ℕ → Bool → List ℕ → Type 0
NextBraceletSays k w true v = next_of bracelet k w ≡ some v
NextBraceletSays k w false v = next_of bracelet k w ≡ none
