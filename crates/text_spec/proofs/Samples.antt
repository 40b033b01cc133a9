-- The page's own lines (01, 'The listing program'), computed from the definitions: one table, one claim.
use Rattle.words.proofs.Plain.{ℕ, ◌≡◌, refl, List, [], ◌∷◌}
use Rattle.words.specs.Table.{Hold}
use Rattle.text_spec.specs.{Decimal.decimal_in, Decimal.decimal, Ascii.ascii}
use Rattle.text_spec.specs.Text.{first_line, ring_line, last_line, refused_line}

-- a text as it is defined, and as it is printed
pub data Sample : Type 0 where
  reads : List ℕ → List ℕ → Sample

unfoldable pub table : List Sample
table =
    reads (decimal 0) (ascii "0") ∷
    reads (decimal 10) (ascii "10") ∷
    reads (decimal 18446744073709551615) (ascii "18446744073709551615") ∷
    reads (first_line 2 4) (ascii "necklaces k=2 n=4\n") ∷
    reads (ring_line (0 ∷ 0 ∷ 1 ∷ 1 ∷ []) 2 4) (ascii "0011 2 4\n") ∷
    reads (ring_line (9 ∷ 10 ∷ 15 ∷ []) 0 3) (ascii "9af 0 3\n") ∷
    reads (last_line 6 7) (ascii "total 6 moves 7\n") ∷
    reads (refused_line 11) (ascii "refused 11\n") ∷ []

-- what a row claims
abbrev pub Reads : Sample → Type 0
Reads (reads s t) = s ≡ t

pub samples-hold : Hold Reads table
unfolding table Hold decimal decimal_in first_line ring_line last_line refused_line
samples-hold = (refl, (refl, (refl, (refl, (refl, (refl, (refl, (refl, tt))))))))
