-- A set in 32 places of 24 sectors, in the order taken, everything unused 0 (02, 'g').
--     sector_of ts i      the sector at place i of all 768: sector i % 24 of the ring number i / 24, or 0 where there is none
--     laid ts            the 768 sectors
--     place_at n p j      the reading of n sectors in place j of p
--     set_in n p t        the readings of n sectors in the first t places of p
use Rattle.std.specs.Prelude.{ℕ, zero, suc, ◌/◌, ◌%◌, ◌*◌, List, [], ◌∷◌, ◌++◌, get_or, take, drop}
use Rattle.words.specs.Search.{tab}

-- the sector at place i
unfoldable pub sector_of : List (List ℕ) → ℕ → ℕ
sector_of ts i = get_or (get_or ts (i / 24) []) (i % 24) 0

-- the 768 sectors
unfoldable pub laid : List (List ℕ) → List ℕ
laid ts = tab 768 (sector_of ts)

-- the reading in place j
abbrev pub place_at : ℕ → List ℕ → ℕ → List ℕ
place_at n p j = take n (drop (24 * j) p)

-- the readings in the first t places
unfoldable pub set_in : ℕ → List ℕ → ℕ → List (List ℕ)
set_in n p zero = []
set_in n p (suc t) = set_in n p t ++ (place_at n p t ∷ [])
