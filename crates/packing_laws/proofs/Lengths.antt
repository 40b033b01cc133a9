-- How many bytes n sectors of b bits take, and how many bits they leave unused (`packing_spec`, specs/Packing).
--     bits-bytes                the sectors' bits and the unused ones fill the bytes
--     spare-lt, bytes-is        fewer than 8 are unused, and for no other number of bytes
--     packed-some, packed-le    at least one byte, and no more than there are sectors
--     few_bits                  at most 512 bits, for up to 64 sectors of up to 8 bits
--     bits-within, byte-of-lt   each bit of a sector is one of the sectors' bits, so its first bit lies in one of the bytes
use Rattle.words.proofs.Plain.{ℕ, suc, ◌+◌, ◌*◌, ◌<◌, ◌≤◌, arith, ◌≡◌}
use native.Mathlib.Nat.{mul-suc, mul-le-mul, mul-le-mul_left}
use Rattle.packing_spec.specs.Packing.{packed_length, spare, byte_of}

pub bits-bytes : (b n : ℕ) → b * n + spare b n ≡ 8 * packed_length b n
unfolding spare packed_length
bits-bytes b n = omega arith

pub spare-lt : (b n : ℕ) → spare b n < 8
unfolding spare packed_length
spare-lt b n = omega arith

pub bytes-is : (b n l s : ℕ) → b * n + s ≡ 8 * l → s < 8 → (packed_length b n ≡ l) × (spare b n ≡ s)
unfolding spare packed_length
bytes-is b n l s e h = (omega arith, omega arith)

pub packed-some : (b n : ℕ) → 1 ≤ b → 1 ≤ n → 1 ≤ packed_length b n
packed-some b n p q = omega (arith, bits-bytes b n, mul-le-mul {n₁ = 1} {m₁ = 1} {n₂ = b} {m₂ = n} p q)

pub packed-le : (b n : ℕ) → b ≤ 8 → packed_length b n ≤ n
packed-le b n h = omega (arith, bits-bytes b n, spare-lt b n, mul-le-mul {n₁ = b} {m₁ = n} {n₂ = 8} {m₂ = n} h (omega arith))

pub few_bits : (b n : ℕ) → b ≤ 8 → n ≤ 64 → b * n ≤ 512
few_bits b n p q = mul-le-mul {n₁ = b} {m₁ = n} {n₂ = 8} {m₂ = 64} p q

-- the bit m of the sector i is one of all the sectors' bits
pub bits-within : (b n i m : ℕ) → i < n → m < b → b * i + m < b * n
bits-within b n i m l h = omega (arith, mul-suc b i, mul-le-mul_left b l)

pub byte-of-lt : (b n i : ℕ) → 1 ≤ b → i < n → byte_of b i < packed_length b n
unfolding byte_of
byte-of-lt b n i h l = omega (arith, bits-within b n i 0 l h, bits-bytes b n, spare-lt b n)
