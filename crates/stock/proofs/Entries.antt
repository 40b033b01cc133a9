-- What the computed test of the table (Table) says of each entry.
--     entry       the entry of a byte is its home reading
--     entry-d0    that of D0 is 0D (hexadecimal)
use Rattle.words.proofs.Plain.{ℕ, ◌<◌, arith, ◌≡◌, ◌∙◌, get_or, eqb-true}
use Rattle.words.proofs.Search.{all-at}
use Rattle.stock_spec.specs.Stock.{home_byte}
use Rattle.stock_spec.proofs.Bits.{home-d0}
use Rattle.stock.proofs.Table.{homes, right, all_right}

-- each entry follows the rule
pub entry : (b : ℕ) → b < 256 → get_or homes b 0 ≡ home_byte b
unfolding right
entry b h = eqb-true (get_or homes b 0) (home_byte b) (all-at 256 right all_right b h)

-- entry D0 is 0D (hexadecimal)
pub entry-d0 : get_or homes 0xD0 0 ≡ 0x0D
entry-d0 = entry 0xD0 (omega arith) ∙ home-d0
