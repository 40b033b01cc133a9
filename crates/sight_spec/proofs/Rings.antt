-- Rings that lie end to end (specs/Rings), n sectors each.
--     length-first, first-at      how many the first m rings are, and the ring number j of them
--     ring-fits                   the ring number j lies inside
--     ring-length, rings-long     it has n sectors
use Rattle.words.proofs.Plain.{ℕ, zero, suc, ◌+◌, ◌*◌, ◌/◌, ◌<◌, ◌≤◌, arith, ◌≡◌, refl, sym, ap, ◌∙◌, List, [], ◌∷◌, ◌++◌, length, get_or, drop, length-drop}
use Rattle.words.proofs.Plain.{length-take-le}
use native.Mathlib.Nat.{mul-div-le, mul-le-mul_left, mul-suc}
use Rattle.words.proofs.Split.{lt, eq, gt, tri}
use Rattle.set_laws.proofs.Lists.{length_more, at_old, at_new}
use Rattle.guard_laws.proofs.Sides.{Long}
use Rattle.sight_spec.specs.Rings.{ring_at, first_rings, rings_in}

-- ---- where each ring lies

pub length-first : (n : ℕ) (rs : List ℕ) (m : ℕ) → length (first_rings n rs m) ≡ m
unfolding first_rings
length-first n rs zero = refl
length-first n rs (suc m) = length_more (first_rings n rs m) (ring_at n rs m) ∙ ap suc (length-first n rs m)

pub first-at : (n : ℕ) (rs : List ℕ) (m j : ℕ) → j < m → get_or (first_rings n rs m) j [] ≡ ring_at n rs j
unfolding first_rings
first-at n rs zero j h = absurd (omega arith)
first-at n rs (suc m) j h =
    elim (tri j m) [
      | lt l ↦ at_old (first_rings n rs m) (ring_at n rs m) j (omega (arith, length-first n rs m)) ∙ first-at n rs m j l
      | eq l ↦ ap (λ (x : ℕ). get_or (first_rings n rs m ++ (ring_at n rs m ∷ [])) x []) (l ∙ sym (length-first n rs m)) ∙ at_new (first_rings n rs m) (ring_at n rs m) ∙ ap (ring_at n rs) (sym l)
      | gt l ↦ absurd (omega arith)
    ]

-- the ring number j lies inside
pub ring-fits : (n : ℕ) (rs : List ℕ) (j : ℕ) → j < length rs / n → n * j + n ≤ length rs
ring-fits n rs j h = omega (arith, mul-div-le (length rs) n, mul-le-mul_left {m = suc j} {n = length rs / n} n (omega arith), mul-suc n j)

pub ring-length : (n : ℕ) (rs : List ℕ) (j : ℕ) → j < length rs / n → length (ring_at n rs j) ≡ n
ring-length n rs j h = length-take-le n (drop (n * j) rs) (omega (arith, ring-fits n rs j h, length-drop (n * j) rs))

pub rings-long : (n : ℕ) (rs : List ℕ) → Long n (rings_in n rs)
rings-long n rs j h = let l : j < length rs / n = omega (arith, length-first n rs (length rs / n)) in rw (first-at n rs (length rs / n) j l) (ring-length n rs j l)
