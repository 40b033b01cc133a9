-- How many bits a sector takes in the packed stored form (02, request k): as many as the highest shade, k - 1, needs.
--     width k    the least b for which k - 1 is below 2 to the power b
-- That every shade fits into them, and that k - 1 fits into no fewer: `packing_laws`, proofs/Width.
use Rattle.std.specs.Prelude.{ℕ, ◌-◌, ◌^◌, ltb}
use Rattle.words.specs.Search.{least}

unfoldable pub width : ℕ → ℕ
width k = least k (λ b. ltb (k - 1) (2 ^ b))
