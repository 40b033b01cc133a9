-- `listing_program_inner::print_pages` meets its contract: the page stands in the buffer, and fewer pages follow each time.
use Rattle.words.proofs.Needs.{arith, refl, sym, ◌∙◌, length-take, not-true, not-false}
use Rattle.listing_steps_inner.proofs.Going.{goes-bytes}
use Rattle.listing_program_inner.proofs.Turns.{paged-length, turning-next, pages-fall}
use Rattle.listing_program_inner.proofs.print_pages.Goals as goal

pub loop-page-init : goal.loop-page-init
loop-page-init c = (omega arith, refl, c.requires.turning)

pub slice_bounds-write_all-end : goal.slice_bounds-write_all-end
slice_bounds-write_all-end c = omega (arith, c.loop-page.invariant.2.inside)

pub slice_bounds-write_all-end-in-loop-page : goal.slice_bounds-write_all-end-in-loop-page
slice_bounds-write_all-end-in-loop-page c = simp length-take (omega (arith, c.loop-page.invariant.2.inside))

pub returns-then-not-goes_on : goal.returns-then-not-goes_on
returns-then-not-goes_on c = sym c.goes_on.ensures ∙ not-true _ c.if-not-goes_on.true-raw

pub loop-page-smaller : goal.loop-page-smaller
loop-page-smaller c =
    pages-fall c.loop-page.page c.loop-page.buf _ _ c.loop-page.invariant.2.stands c.loop-page.invariant.0
    (goes-bytes c.write_all-wrote.result c.loop-page.page.length (sym c.goes_on.ensures ∙ not-false _ c.if-not-goes_on.false-raw)) c.next_page-page.ensures

pub loop-page-preserved : goal.loop-page-preserved
loop-page-preserved c =
    let e = paged-length _ _ _ _ c.next_page-page.ensures in
    (omega (arith, c.loop-page.invariant.0), e ∙ c.loop-page.invariant.1, rw e (turning-next c.loop-page.page.state c.loop-page.buf _ _ c.loop-page.invariant.2.stands c.next_page-page.ensures))
