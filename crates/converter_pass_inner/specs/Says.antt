-- What becomes of a block. w tells which time through the catalogue it is: false the first, which checks, true the second, which writes.
--     most_block                    no block has more than 65,536 bytes
--     BuffersFit b d               a block b has room for the longest record, and the output d has its length
--     Kept w b d                   what stands in the output d for whole records b: the first time anything, the second their conversion
--     Why w p b last t             why a block is as far as it goes
--     BlockBecomes w p b last d v  the block b, which begins at the place p of the catalogue, was gone through: v is what becomes of it
--     AtSays w p b d v             the same of what was read to the block b
use Rattle.std.specs.Prelude.{ℕ, ◌+◌, ◌≤◌, ◌≡◌, ◌⊎◌, Bool, true, false, List, length, take, Ok, Err}
use Rattle.refusal.specs.declared.Refusal.{Refusal}
use Rattle.refusal.specs.Numbers.{number_of, place_of}
use Rattle.converter_spec.specs.Converts.{Sound, Turned}
use Rattle.converter_blocks_spec.specs.Blocks.{StretchSays}
use Rattle.program_ending_inner.specs.declared.Ending.{Ending}
use Rattle.program_ending_inner.specs.declared.Ending.TheVariants as E
use Rattle.program_passes_inner.specs.Passes.{failed_of, ReadTo, Course}
use Rattle.program_passes_inner.specs.Passes.Course.{On, Done, Stopped}

abbrev pub most_block : ℕ
most_block = 65536

pub record BuffersFit (b d : List ℕ) : Type 0 where
  pub some : 68 ≤ length b
  pub short : length b ≤ most_block
  pub same : length d ≡ length b

abbrev pub Kept : Bool → List ℕ → List ℕ → Type 0
Kept false b d = Unit
Kept true b d = Turned b d

abbrev pub Why : Bool → ℕ → List ℕ → Bool → Ending → Type 0
Why false p b last t = (r : Refusal) × StretchSays b last (Err r) × (t ≡ E.Refused (number_of r) (p + place_of r))
Why true p b last t = (t ≡ E.Changed) ⊎ (t ≡ E.Unwritten)

abbrev pub BlockBecomes : Bool → ℕ → List ℕ → Bool → List ℕ → Course → Type 0
BlockBecomes w p b last d (On m) = (last ≡ false) × StretchSays b false (Ok m) × Kept w (take m b) (take m d)
BlockBecomes w p b last d (Done m) = (last ≡ true) × (m ≡ length b) × Sound b × Kept w b (take m d)
BlockBecomes w p b last d (Stopped t) = Why w p b last t

-- what stands in the lent block afterwards was read: all of it, or its first m bytes, and then the catalogue ended
pub data AtSays (w : Bool) (p : ℕ) (b d : List ℕ) (v : Course) : Type 0 where
  unread : v ≡ Stopped (failed_of w) → AtSays w p b d v
  read : (last : Bool) (m : ℕ) → ReadTo b last m → BlockBecomes w p (take m b) last (take m d) v → AtSays w p b d v
