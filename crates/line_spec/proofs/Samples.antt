-- Lines computed from the definition: one table, one claim.
use Rattle.words.proofs.Plain.{◌≡◌, refl}
use Rattle.text_spec.specs.{Ascii.ascii, Decimal.decimal_in, Decimal.decimal}
use Rattle.line_spec.specs.Line.{fields}

-- the page's own line, and one with a 0 and three digits
pub fields-hold : (fields 2 4 ≡ ascii "2 4") × (fields 0 999 ≡ ascii "0 999")
unfolding decimal decimal_in fields
fields-hold = (refl, refl)
