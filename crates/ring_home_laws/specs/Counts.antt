-- How many more of the shades one reading has than another, by their counts. That it is a lower bound of how far apart they are: proofs/Counts.
--     surplus k f g      how many more f has of the shades below k than g: of each shade, 0 where g has as many
use Rattle.std.specs.Prelude.{ℕ, zero, suc, ◌+◌, ◌-◌}

-- how many more f has of the shades below k than g
unfoldable pub surplus : ℕ → (ℕ → ℕ) → (ℕ → ℕ) → ℕ
surplus zero f g = 0
surplus (suc k) f g = surplus k f g + (f k - g k)
