-- The next prenecklace as the page builds it (01, 'Rules the work stands on'; 001, Definition 2): let i be the last place, counted from 1, that holds
-- less than k - 1; raise that sector by one, drop what follows, and repeat the first i sectors until n are filled, the last copy cut where needed.
-- That this is the least prenecklace above: `ring_laws`, proofs/Next.
use Rattle.std.specs.Prelude.{ℕ, suc, ◌-◌, ◌%◌, Bool, List, [], ◌∷◌, ◌++◌, length, take, get_or, ltb}
use Rattle.words.specs.Search.{greatest, tab}

-- the sector at place i, counted from 1, is less than k - 1
unfoldable pub low_at : ℕ → List ℕ → ℕ → Bool
low_at k w i = ltb (suc (get_or w (i - 1) 0)) k

-- the last place, counted from 1, that holds less than k - 1; 0 where every sector is k - 1
unfoldable pub last_low : ℕ → List ℕ → ℕ
last_low k w = greatest (length w) (low_at k w)

-- the first i sectors, the last of them raised by one
unfoldable pub raised : ℕ → List ℕ → List ℕ
raised i w = take (i - 1) w ++ (suc (get_or w (i - 1) 0) ∷ [])

-- u repeated until n sectors are filled, the last copy cut where needed
unfoldable pub repeated : ℕ → List ℕ → List ℕ
repeated n u = tab n (λ m. get_or u (m % length u) 0)

-- the next prenecklace, where some sector is less than k - 1
unfoldable pub next_prenecklace : ℕ → List ℕ → List ℕ
next_prenecklace k w = repeated (length w) (raised (last_low k w) w)
