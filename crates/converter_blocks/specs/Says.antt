-- What the part of the call promises.
--     LeftSays r last v    the block is refused with r as a catalogue of its own, and v is what that makes of the block
use Rattle.std.specs.Prelude.{ℕ, ◌≡◌, Bool, false, Result, Ok, Err}
use Rattle.refusal.specs.declared.Refusal.{Refusal}
use Rattle.refusal.specs.declared.Refusal.TheVariants.{Cut}
use Rattle.converter_blocks_spec.specs.Blocks.{Stays}

abbrev pub LeftSays : Refusal → Bool → Result ℕ Refusal → Type 0
LeftSays r last (Ok m) = (last ≡ false) × (r ≡ Cut m)
LeftSays r last (Err q) = (q ≡ r) × Stays last r
