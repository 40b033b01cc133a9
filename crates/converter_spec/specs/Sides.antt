-- The records of an old catalogue (01, 'Catalogue records', as it was before 02, j). They lie as records do now (Layout of `record_spec`), under one of two marks.
--     Side, side_byte x, SideMarked t x    the side from which the stored ring is seen: 52 46 the front, 52 42 the back (hexadecimal)
--     front_ring x w                       the ring as seen from the front, of stored sectors w under the mark of side x
use Rattle.std.specs.Prelude.{ℕ, List}
use Rattle.rings.specs.Alike.{mirrored}
use Rattle.record_spec.specs.Layout.{MarkBegins}

pub data Side : Type 0 where
  front : Side
  back : Side

-- the second byte of the mark of this side
abbrev pub side_byte : Side → ℕ
side_byte front = 0x46
side_byte back = 0x42

-- t begins with the mark of this side
abbrev pub SideMarked : List ℕ → Side → Type 0
SideMarked t x = MarkBegins t (side_byte x)

-- the front ring: the stored sectors as they are, or their reversal brought home again
abbrev pub front_ring : Side → List ℕ → List ℕ
front_ring front w = w
front_ring back w = mirrored w
