-- How often a span of shades can be halved: the measure of the search for a shade, so that the number of its tests is part of the proof that it ends.
--     halves d         how many bits d takes, where that is at most 8
--     halves-le        a span below 2 to the power t takes at most t
--     halves-less      half of a span, rounded down, takes fewer
--     halves-within    a span within another takes at most as many
--     tries-less       with a number of tries before it, the tries left and the halves together go down
--     halves-shades    the span of 16 shades takes at most 4
use Rattle.words.proofs.Plain.{ℕ, zero, suc, ◌+◌, ◌-◌, ◌^◌, ◌<◌, ◌≤◌, arith, ◌≡◌, refl, Bool, ltb, ltb-true, lt-ltb}
use native.Mathlib.Nat.{pow-zero, pow-succ'}
use Rattle.words.specs.Search.{least}
use Rattle.words.proofs.Split.{lt, eq, gt, tri, clash}
use Rattle.words.proofs.Search.{least_at, least-none}

-- d takes at most t bits
abbrev within : ℕ → ℕ → Bool
within d t = ltb d (2 ^ t)

-- how many bits d takes, where that is at most 8
unfoldable pub halves : ℕ → ℕ
halves d = least 9 (within d)

pub halves-le : (d t : ℕ) → d < 2 ^ t → halves d ≤ t
unfolding halves
halves-le d t h =
    elim (tri (least 9 (within d)) t) [ lt l ↦ omega arith | eq l ↦ omega arith | gt l ↦ clash (within d t) (lt-ltb d (2 ^ t) h) (least-none 9 (within d) t l) ]

-- the span of 16 shades
pub halves-shades : (d : ℕ) → d < 16 → halves d ≤ 4
halves-shades d h = halves-le d 4 h

-- a span takes as many bits as it takes
halves-at : (d : ℕ) → d < 256 → d < 2 ^ halves d
unfolding halves
halves-at d h = ltb-true d (2 ^ least 9 (within d)) (least_at 9 (within d) (omega (arith, halves-le d 8 h)))

-- a span within another takes at most as many
pub halves-within : (d e : ℕ) → d < 256 → e ≤ d → halves e ≤ halves d
halves-within d e h l = halves-le e (halves d) (omega (arith, halves-at d h))

-- half of a span takes fewer
pub halves-less : (d e : ℕ) → 0 < d → d < 256 → e + e ≤ d → halves e < halves d
halves-less d e z h l = go (halves d) refl (halves-at d h)
  where
    go : (t : ℕ) → halves d ≡ t → d < 2 ^ t → halves e < t
    go zero g b = absurd (omega (arith, pow-zero 2))
    go (suc t) g b = omega (arith, halves-le e t (omega (arith, pow-succ' 2 t)))

-- with t tries before it, each on a span within the one before: the tries left and the halves together go down
pub tries-less : (d e t u : ℕ) → 0 < d → d < 256 → e < d → (t ≡ 0 → e + e ≤ d) → u ≡ t - 1 → u + halves e < t + halves d
tries-less d e t u z h l half q =
    elim (tri t 0) [ lt g ↦ absurd (omega arith) | eq g ↦ omega (arith, halves-less d e z h (half g)) | gt g ↦ omega (arith, halves-within d e h (omega arith)) ]
