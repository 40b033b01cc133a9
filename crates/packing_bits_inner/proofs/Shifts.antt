-- What shifts of bytes need, over plain numbers.
--     shifted, shifted-lt    a shift of a byte by up to 8 loses nothing, and how far it goes
--     raised_lt              a number of h bits, raised by those that are missing, is a byte
use Rattle.words.proofs.Plain.{ℕ, ◌+◌, ◌-◌, ◌*◌, ◌%◌, ◌^◌, ◌<◌, ◌≤◌, arith, ◌≡◌}
use lib.Pow.{pow_mono, shl_lt, shl_exact}

pub shifted : (x h : ℕ) → x < 256 → h ≤ 8 → x * 2 ^ h % 18446744073709551616 ≡ x * 2 ^ h
shifted x h l g = shl_exact 8 h 64 l (omega arith)

pub shifted-lt : (x h : ℕ) → x < 256 → h ≤ 8 → x * 2 ^ h < 65536
shifted-lt x h l g = omega (arith, shl_lt {a = x} 8 h l, pow_mono {i = 8 + h} {j = 16} (omega arith))

pub raised_lt : (x h : ℕ) → h ≤ 8 → x < 2 ^ h → x * 2 ^ (8 - h) < 256
raised_lt x h l g = let e : h + (8 - h) ≡ 8 = omega arith in let y : x * 2 ^ (8 - h) < 2 ^ 8 = rw e at (shl_lt h (8 - h) g) in y
