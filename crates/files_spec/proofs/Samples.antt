-- What records show, and what stands behind the last one, written out by hand: request k's ring 001011, as a front record 52 46 06 02 00 00 01 00 01 01 and as a packed one
-- 52 50 06 02 2C.
use Rattle.words.proofs.Plain.{ℕ, ◌≡◌, refl, ◌∙◌, List, [], ◌∷◌}
use Rattle.rings.specs.Open.{open-all}
use Rattle.packing_spec.specs.Open.{open-packing}
use Rattle.text_spec.specs.{Ascii.ascii, Decimal.decimal_in, Decimal.decimal, Text.two_numbers}
use Rattle.text_fill_spec.specs.Filled.{filled_text}
use Rattle.refusal.specs.declared.Refusal.TheVariants.{NotHome}
use Rattle.std.specs.Prelude.{Ok, Err}
use Rattle.record_spec.specs.declared.Kind.TheVariants.{Front, Packed}
use Rattle.record_spec.proofs.Wrote.{record_bytes}
use Rattle.files_spec.specs.declared.Job.TheVariants.{Read, Move}
use Rattle.files_spec.specs.Shows.{other_kind, record_line, Shows, last_text}
use Rattle.files_spec.proofs.Unique.{filled-bytes}

abbrev ring : List ℕ
ring = 0 ∷ 0 ∷ 1 ∷ 0 ∷ 1 ∷ 1 ∷ []

-- their lines
pub front-line : record_line 0 Front 6 2 ring ≡ ascii "0 front 6 2 001011\n"
unfolding filled_text decimal decimal_in
front-line = refl

pub packed-line : record_line 67 Packed 6 2 ring ≡ ascii "67 packed 6 2 001011\n"
unfolding filled_text decimal decimal_in
packed-line = refl

-- the lines behind them
pub end_line : last_text Read (Ok tt) ≡ ascii "end\n"
unfolding last_text
end_line = refl

pub refused-line : last_text Read (Err (NotHome 67)) ≡ ascii "refused 9 at 67\n"
unfolding last_text two_numbers decimal decimal_in
refused-line = refl

-- moved, each becomes the other
front_bytes : record_bytes (other_kind Packed) 2 ring ≡ (0x52 ∷ 0x46 ∷ 6 ∷ 2 ∷ ring)
unfolding open-all open-packing
front_bytes = refl

packed-bytes : record_bytes (other_kind Front) 2 ring ≡ (0x52 ∷ 0x50 ∷ 6 ∷ 2 ∷ 0x2C ∷ [])
unfolding open-all open-packing
packed-bytes = refl

pub front-moved : (s : ℕ) (t : List ℕ) → Shows Move s 6 2 Front ring t → t ≡ (0x52 ∷ 0x50 ∷ 6 ∷ 2 ∷ 0x2C ∷ [])
front-moved s t h = filled-bytes ring 2 (other_kind Front) t h ∙ packed-bytes

pub packed-moved : (s : ℕ) (t : List ℕ) → Shows Move s 6 2 Packed ring t → t ≡ (0x52 ∷ 0x46 ∷ 6 ∷ 2 ∷ ring)
packed-moved s t h = filled-bytes ring 2 (other_kind Packed) t h ∙ front_bytes
