-- `listing_program_inner::first_of_input` meets its contract. The bytes that were read decide.
use Rattle.words.proofs.Needs.{arith, refl, length-take}
use Rattle.program_reading_inner.specs.declared.Most.TheVariants.{Full, Ended, Failed}
use Rattle.program_reading_inner.specs.Says.{MostSays}
use Rattle.listing_program_inner.proofs.Input.{input-full, input-by}
use Rattle.listing_program_inner.proofs.first_of_input.Goals as goal

pub slice_bounds-first_page-end : goal.slice_bounds-first_page-end
slice_bounds-first_page-end c =
    let m : MostSays (Ended c.in-Ended.got) c.args.line.now = rw c.in-Ended.is at c.requires.most_says in
    simp length-take (omega (arith, m))

pub returns-in-Full : goal.returns-in-Full
returns-in-Full c =
    input-by c.args.most Full _ _ _ _ c.in-Full.is (input-full c.args.line.now c.args.buf.now _ _ c.requires.list_line_bytes_in_bounds c.first_page.ensures)

pub returns-in-Ended : goal.returns-in-Ended
returns-in-Ended c =
    input-by c.args.most (Ended c.in-Ended.got) _ _ _ _ c.in-Ended.is c.first_page-in-Ended.ensures

pub returns-in-Failed : goal.returns-in-Failed
returns-in-Failed c =
    input-by c.args.most Failed _ _ _ _ c.in-Failed.is (c.no_page.ensures.0, c.no_page.ensures.1, refl)
