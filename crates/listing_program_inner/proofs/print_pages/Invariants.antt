-- `listing_program_inner::print_pages` meets its contract: the page stands in the buffer, and fewer pages follow each time.
use Rattle.words.proofs.Needs.{◌≤◌, ◌≡◌, length}
use Rattle.listing_spec.specs.Paging.{row_room}
use Rattle.listing_program_inner.specs.Says.{Turning}
use Rattle.listing_program_inner.proofs.Turns.{pages_left}
use Rattle.listing_program_inner.proofs.print_pages.Given as goal

abbrev pub invariant-loop-page : goal.invariant-loop-page
invariant-loop-page l = (row_room ≤ length l.buf) × (length l.buf ≡ length l.initial.buf) × Turning l.page (length l.buf)

abbrev pub decreases-loop-page : goal.decreases-loop-page
decreases-loop-page l = pages_left l.page
