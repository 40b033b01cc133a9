-- The walk's record (01, 'Walks'; 02, m).
--     ring_of w          the ring of a record: its first n sectors
--     shade_counts v     how often each of the 16 shades stands in v
--     walk_of k v        the record of a ring v: n, k, v with 0 behind it to 64 sectors, its class, its counts
--     empty_walk         the record that a refused start hands out
--     on_walk v c        v is a prenecklace and its class is c
--     walk_asked w       the checks of a record
-- That the counts of the shades from k up are 0 in every record that is handed out: `walk_laws`, proofs/Counts.
use Rattle.std.specs.Prelude.{ℕ, ◌-◌, Bool, ◌&&◌, List, ◌++◌, length, take, replicate}
use Rattle.words.specs.Order.{same}
use Rattle.rings.specs.declared.Class.{Class}
use Rattle.rings.specs.declared.Class.TheVariants.{Loose}
use Rattle.rings.specs.Prenecklace.{prenecklace}
use Rattle.rings.specs.Class.{class_of, same_class}
use Rattle.rings.specs.Counts.{counts_of}
use Rattle.refusal.specs.Order.{Checks}
use Rattle.refusal.specs.Calls.{walk_record}
use Rattle.walk_spec.specs.declared.Walk.{Walk}

-- the ring of a record
abbrev pub ring_of : Walk → List ℕ
ring_of w = take w.n w.ring

-- a ring with 0 behind it, 64 sectors in all
abbrev pub laid_out : List ℕ → List ℕ
laid_out v = v ++ replicate (64 - length v) 0

-- 16 counts, one for each shade: how often it stands in the ring
abbrev pub shade_counts : List ℕ → List ℕ
shade_counts v = counts_of 16 v

-- the record of a ring
abbrev pub walk_of : ℕ → List ℕ → Walk
walk_of k v = record { n = length v; k = k; ring = laid_out v; class = class_of v; counts = shade_counts v }

-- 0 for n, k, every sector and every count, classed Loose with the place 0, which no reading has
abbrev pub empty_walk : Walk
empty_walk = record { n = 0; k = 0; ring = replicate 64 0; class = Loose 0; counts = replicate 16 0 }

-- the ring is a prenecklace, and the class is its own
unfoldable pub on_walk : List ℕ → Class → Bool
on_walk v c = prenecklace v && same_class c (class_of v)

-- the checks of a record: it is on the walk where its ring is a prenecklace, and its class and all its counts are that ring's
abbrev pub walk_asked : Walk → Checks
walk_asked w = walk_record w.n w.k w.ring (on_walk (ring_of w) w.class && same w.counts (shade_counts (ring_of w)))
