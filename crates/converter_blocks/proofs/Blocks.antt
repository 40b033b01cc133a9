-- The answer for a block, from that for a catalogue of its own.
--     block-left    what a refusal of it makes of the block
use Rattle.words.proofs.Plain.{ℕ, arith, ◌≡◌, Bool, true, false, true≢false, List}
use Rattle.std.specs.Prelude.{Result, Ok, Err}
use Rattle.refusal.specs.declared.Refusal.{Refusal}
use Rattle.converter_spec.specs.Converts.{Damaged}
use Rattle.converter_blocks_spec.specs.Blocks.{begun, StretchSays}
use Rattle.converter_blocks_spec.proofs.Places.{Torn, damage-torn}
use Rattle.converter_blocks.specs.Says.{LeftSays}

pub block-left : (b : List ℕ) (last : Bool) (r : Refusal) (v : Result ℕ Refusal) → Damaged b 0 r → LeftSays r last v → StretchSays b last v
block-left b last r (Err q) d (e, k) = rw e (d, k)
block-left b true r (Ok m) d (e, k) = absurd (true≢false e)
block-left b false r (Ok m) d (e, k) = torn (damage-torn b 0 m r k d)
  where
    torn : Torn b 0 m → StretchSays b false (Ok m)
    torn w = let f : m ≡ w.from = omega (arith, w.place) in rw f (omega (arith, w.inside), w.sound, begun w.rest)
