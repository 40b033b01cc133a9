-- The width of k shades (`packing_spec`, specs/Width).
--     width_fits, shade-fits, shades-fit    the highest shade takes no more bits, so no shade does, and no sector of a reading
--     width-needs                           and the highest needs them all
--     width_is                              nothing else is so
--     width-pos, width-le, narrow           at least 1; at most b where k is up to 2 to the power b; so 1 to 4 for 2 to 16 shades
--     width-leading                         eight less the leading zeros of k - 1 as a byte
use Rattle.words.proofs.Plain.{ℕ, zero, suc, ◌+◌, ◌-◌, ◌*◌, ◌^◌, ◌<◌, ◌≤◌, arith, ◌≡◌, Bool, List, ltb, length, get_or, ltb-true, ltb-false, lt-ltb}
use native.Mathlib.Nat.{pow-suc}
use lib.Pow.{pow_mono}
use lib.Count.{count_leading_zeros, leading_length}
use Rattle.words.specs.Readings.{Shaded}
use Rattle.words.proofs.Search.{least_at, least_lt, least-none}
use Rattle.words.proofs.Split.{lt, eq, gt, tri}
use Rattle.packing_spec.specs.{Width.width, Packing.BitsFit}

-- a number is below 2 to its own power
pow-above : (n : ℕ) → n < 2 ^ n
pow-above zero = omega arith
pow-above (suc n) = rw (pow-suc 2 n) (omega (arith, pow-above n))

pub width_fits : (k : ℕ) → 0 < k → k - 1 < 2 ^ width k
unfolding width
width_fits k z =
    let f : ℕ → Bool = λ b. ltb (k - 1) (2 ^ b) in
    ltb-true _ _ (least_at k f (least_lt k f (k - 1) (omega arith) (lt-ltb (k - 1) (2 ^ (k - 1)) (pow-above (k - 1)))))

pub shade-fits : (k x : ℕ) → x < k → x < 2 ^ width k
shade-fits k x h = omega (arith, width_fits k (omega arith))

pub shades-fit : (k : ℕ) (w : List ℕ) → ((i : ℕ) → i < length w → get_or w i 0 < k) → BitsFit (width k) w
shades-fit k w h i l = shade-fits k (get_or w i 0) (h i l)

pub width-needs : (k b : ℕ) → b < width k → 2 ^ b ≤ k - 1
unfolding width
width-needs k b h = ltb-false _ _ (least-none k (λ (a : ℕ). ltb (k - 1) (2 ^ a)) b h)

pub width_is : (k b : ℕ) → 0 < k → k - 1 < 2 ^ b → 2 ^ b ≤ 2 * (k - 1) + 1 → width k ≡ b
width_is k b z h l =
    elim (tri (width k) b) [
      | lt g ↦ absurd (omega (arith, width_fits k z, pow-suc 2 (width k), pow_mono {i = suc (width k)} {j = b} (omega arith)))
      | eq g ↦ g
      | gt g ↦ absurd (omega (arith, width-needs k b g))
    ]

pub width-pos : (k : ℕ) → 2 ≤ k → 1 ≤ width k
width-pos k h =
    elim (tri (width k) 0) [
      | lt g ↦ absurd (omega arith)
      | eq g ↦ absurd (let f : k - 1 < 2 ^ 0 = rw g at (width_fits k (omega arith)) in omega arith)
      | gt g ↦ omega arith
    ]

pub width-le : (k b : ℕ) → 0 < k → k ≤ 2 ^ b → width k ≤ b
width-le k b z h = elim (tri (width k) b) [ lt g ↦ omega arith | eq g ↦ omega arith | gt g ↦ absurd (omega (arith, width-needs k b g)) ]

pub narrow : (k : ℕ) → Shaded k → (1 ≤ width k) × (width k ≤ 4)
narrow k h = (width-pos k h.0, width-le k 4 (omega arith) (omega arith))

pub width-leading : (k : ℕ) → 2 ≤ k → k ≤ 256 → width k ≡ 8 - count_leading_zeros 8 (k - 1)
width-leading k z h =
    let p = leading_length 8 (k - 1) (omega arith) in
    let e : 8 - count_leading_zeros 8 (k - 1) ≡ p.0 = omega (arith, p.1) in
    rw e (width_is k p.0 (omega arith) p.2 p.3)
