-- Powers of k that are at most 2 to the power 32.
--     power-fits      a power of a divisor of n
--     product-fits    a weight times a power
use Rattle.words.proofs.Plain.{ℕ, ◌*◌, ◌/◌, ◌^◌, ◌<◌, ◌≤◌, arith}
use native.Mathlib.Nat.{pow-le-pow_right, div-le_self, mul-le-mul}

abbrev pub limit : ℕ
limit = 4294967296

pub power-fits : (k : ℕ) → 0 < k → (n d : ℕ) → k ^ n ≤ limit → k ^ (n / d) ≤ limit
power-fits k z n d h = let b : k ^ (n / d) ≤ k ^ n = pow-le-pow_right {n = k} z (div-le_self n d) in omega arith

pub product-fits : (a b : ℕ) → a ≤ 64 → b ≤ limit → a * b ≤ 274877906944
product-fits a b h l = mul-le-mul h l
