-- Comparing readings, a ring seen from the other side, and one ring from each mirror pair (01, 'Rules the work stands on' and 'Catalogue records'; 02, request c).
use Rattle.std.specs.Prelude.{ℕ, ◌+◌, Bool, not, ◌&&◌, List, [], ◌∷◌, reverse, length, eqb}
use Rattle.words.specs.Search.{all_below, some_below, least}
use Rattle.words.specs.Order.{up_to, same}
use Rattle.words.specs.Turn.{turn}
use Rattle.words.specs.Readings.{bit}
use Rattle.rings.specs.Necklace.{necklace}
use Rattle.rings.specs.Home.{home}

-- even-handed: some turn of the reversed reading equals the reading
unfoldable pub even_handed : List ℕ → Bool
even_handed w = some_below (length w) (λ i. same (turn i (reverse w)) w)

-- two readings are of the same ring: their home readings are equal
unfoldable pub same_ring : List ℕ → List ℕ → Bool
same_ring v w = same (home v) (home w)

-- how many places two readings of one length differ at
unfoldable pub differing : List ℕ → List ℕ → ℕ
differing [] w = 0
differing (a ∷ v) [] = 0
differing (a ∷ v) (b ∷ w) = bit (not (eqb a b)) + differing v w

-- some turn of v differs from w at exactly d places
unfoldable pub turn_differs : List ℕ → List ℕ → ℕ → Bool
turn_differs v w d = some_below (length v) (λ i. eqb (differing (turn i v) w) d)

-- how far apart two readings of one length are: the smallest number of places at which a turn of one differs from the other
-- (where none is below n, it is n: no turn then agrees with w anywhere)
unfoldable pub apart : List ℕ → List ℕ → ℕ
apart v w = least (length v) (turn_differs v w)

-- a ring seen from the other side: the reversed reading, brought home again
unfoldable pub mirrored : List ℕ → List ℕ
mirrored w = home (reverse w)

-- a bracelet, the one ring that stands for itself and its mirror image: a necklace, and not above the home reading of its reverse
unfoldable pub bracelet : List ℕ → Bool
bracelet w = necklace w && up_to w (mirrored w)

-- w is not above its turn by i, nor above its reverse turned by i
unfoldable pub not_above_either : List ℕ → ℕ → Bool
not_above_either w i = up_to w (turn i w) && up_to w (turn i (reverse w))

-- the other form of a bracelet: the least among all turns of it and of its reverse. `bracelet_laws`, proofs/Words: the two agree
unfoldable pub least_of_pair : List ℕ → Bool
least_of_pair w = all_below (length w) (not_above_either w)
