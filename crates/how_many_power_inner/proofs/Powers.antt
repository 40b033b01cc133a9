-- A power that is at most a limit, factor after factor: no product on the way is above it.
--     power-step    one factor more
use Rattle.words.proofs.Plain.{ℕ, suc, ◌+◌, ◌*◌, ◌^◌, ◌<◌, ◌≤◌, add-one, arith, ◌≡◌, ap}
use native.Mathlib.Nat.{pow-suc, pow-le-pow_right}

pub power-step : (k e limit i p : ℕ) → 0 < k → k ^ e ≤ limit → i < e → p ≡ k ^ i → (p * k ≡ k ^ (i + 1)) × (p * k ≤ limit)
power-step k e limit i p z h l q =
    let s : p * k ≡ k ^ (i + 1) = rw (add-one i, pow-suc k i, q) in
    let b : k ^ suc i ≤ k ^ e = pow-le-pow_right {n = k} z l in
    (s, omega (arith, s, b, ap (λ (x : ℕ). k ^ x) (add-one i)))
