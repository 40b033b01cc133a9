-- The bytes b behind the head of a packed record of n sectors and k shades.
--     byte-there    there is a byte
--     byte-in       the byte j that holds the first bit of the sector i is one of them; u is the width
use Rattle.words.proofs.Plain.{ℕ, ◌<◌, ◌≤◌, arith, ◌≡◌, ap, ◌∙◌, List, length}
use Rattle.words.specs.Readings.{Sized, Shaded}
use Rattle.packing_spec.specs.Width.{width}
use Rattle.packing_spec.specs.Packing.{byte_of}
use Rattle.record_spec.specs.{declared.Kind.TheVariants.Packed}
use Rattle.record_spec.specs.Layout.{body_length}
use Rattle.record_spec.proofs.Forms.{some_bytes, byte-within}

module _ (n k : ℕ) (b : List ℕ) (h : Shaded k) (l : length b ≡ body_length Packed n k) where
  -- there is a byte
  pub byte-there : Sized n → 1 ≤ length b
  byte-there z = omega (arith, l, some_bytes n k Packed z.0 h)

  -- the byte of a sector is one of them
  pub byte-in : (u i j : ℕ) → u ≡ width k → i < n → j ≡ byte_of u i → j < length b
  byte-in u i j q g e =
      let f : j ≡ byte_of (width k) i = e ∙ ap (λ (y : ℕ). byte_of y i) q in
      omega (arith, f, l, byte-within n k Packed i g h)
