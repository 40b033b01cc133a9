-- The definitions stay shut. `unfolding open-packing` opens them all at once, for the places that compute packed bytes: the table of proofs/Cases, and tables of records.
use Rattle.std.specs.Prelude.{ℕ}
use Rattle.words.specs.Search.{least}
use Rattle.packing_spec.specs.Width.{width}
use Rattle.packing_spec.specs.Packing.{as_one, parts_of, packed_length, spare, packed, unpacked, clear_padding, byte_of, bit_at}

unfoldable pub open-packing : ℕ
unfolding least width as_one parts_of packed_length spare packed unpacked clear_padding byte_of bit_at
open-packing = 0
