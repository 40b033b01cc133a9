-- Rings that lie end to end, n sectors each, and what looking for a reading among them asks.
--     ring_at n rs j              the ring number j
--     first_rings n rs m          the first m rings
--     rings_in n rs               all of them
--     sight_order r rs k          the checks: 1 of the reading r; 10 where the rings rs are no whole number of rings of as many sectors; 2; 3 of the reading, and then of
--                                the rings, whose sectors count on from n; `sight-numbers`: by its numbers
use Rattle.std.specs.Prelude.{ℕ, zero, suc, ◌*◌, ◌/◌, ◌%◌, ◌<◌, ◌≡◌, refl, List, [], ◌∷◌, ◌++◌, length, get_or, take, drop}
use Rattle.words.specs.Readings.{Sized, Shaded}
use Rattle.refusal.specs.declared.Refusal.TheVariants.{Length, Pair, Shades, Sector}
use Rattle.refusal.specs.Order.{Checks, fact, each, ◌▸◌, numbered}

-- the ring number j
abbrev pub ring_at : ℕ → List ℕ → ℕ → List ℕ
ring_at n rs j = take n (drop (n * j) rs)

-- the first m rings
unfoldable pub first_rings : ℕ → List ℕ → ℕ → List (List ℕ)
first_rings n rs zero = []
first_rings n rs (suc m) = first_rings n rs m ++ (ring_at n rs m ∷ [])

-- all of them
abbrev pub rings_in : ℕ → List ℕ → List (List ℕ)
rings_in n rs = first_rings n rs (length rs / n)

-- the order 1, 10, 2, 3
abbrev pub sight_order : List ℕ → List ℕ → ℕ → Checks
sight_order r rs k =
    fact (Sized (length r)) (Length 0)
    ▸ fact (length rs % length r ≡ 0) Pair
    ▸ fact (Shaded k) (Shades 0)
    ▸ each (length (r ++ rs)) (λ i. get_or (r ++ rs) i 0 < k) Sector

pub sight-numbers : (r rs : List ℕ) (k : ℕ) → numbered (sight_order r rs k) ≡ (1 ∷ 10 ∷ 2 ∷ 3 ∷ [])
sight-numbers r rs k = refl
