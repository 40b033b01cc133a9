-- `listing_program_inner::print_through` meets its contract.
use Rattle.words.proofs.Needs.{arith}
use Rattle.listing_program_inner.proofs.Turns.{paged-length, turning-first}
use Rattle.listing_program_inner.proofs.print_through.Goals as goal

pub print_pages-requires : goal.print_pages-requires
print_pages-requires c =
    let e = paged-length _ _ _ _ c.first_page-first.ensures in record { row_room_in_bounds = omega (arith, c.requires); turning = rw e (turning-first _ _ _ _ c.first_page-first.ensures) }
