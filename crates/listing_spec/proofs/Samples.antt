-- Document 01's own listing, of 2 and 4, computed from the definition (01, 'The listing program').
use Rattle.words.proofs.Plain.{refl, [], ◌∷◌}
use Rattle.rings.specs.{Open.open-all, Steps.done, Steps.step}
use Rattle.text_spec.specs.{Ascii.ascii, Decimal.decimal_in, Decimal.decimal}
use Rattle.text_spec.specs.Text.{first_line, ring_line, last_line}
use Rattle.listing_spec.specs.Listing.{row, rows, opening, listing_text, Listing}

pub listing-2-4 : Listing 2 4 (ascii "necklaces k=2 n=4\n0000 0 1\n0001 1 4\n0011 2 4\n0101 1 2\n0111 2 4\n1111 1 1\ntotal 6 moves 7\n")
unfolding open-all decimal_in decimal first_line ring_line last_line row rows opening listing_text
listing-2-4 =
    record {
      rings = (0 ∷ 0 ∷ 0 ∷ 1 ∷ []) ∷ (0 ∷ 0 ∷ 1 ∷ 1 ∷ []) ∷ (0 ∷ 1 ∷ 0 ∷ 1 ∷ []) ∷ (0 ∷ 1 ∷ 1 ∷ 1 ∷ []) ∷ (1 ∷ 1 ∷ 1 ∷ 1 ∷ []) ∷ [];
      sum = 7;
      walk = step {m = 6} refl (step {m = 4} refl (step {m = 3} refl (step {m = 1} refl (step {m = 0} refl (done refl)))));
      is = refl;
    }
