-- A text worked out by hand.
--     counts-sample     the line of 2 4
use Rattle.words.proofs.Plain.{◌≡◌, refl}
use Rattle.text_spec.specs.{Ascii.ascii, Decimal.decimal, Decimal.decimal_in}
use Rattle.report_spec.specs.Lines.{counts_line}

-- 6 necklaces, 3 Lyndon words
pub counts-sample : counts_line 6 3 ≡ ascii "6 3\n"
unfolding counts_line decimal decimal_in
counts-sample = refl
