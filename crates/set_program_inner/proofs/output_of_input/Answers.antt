-- `set_program_inner::output_of_input` meets its contract. The bytes that were read decide.
use Rattle.words.proofs.Needs.{arith, refl, length-take}
use Rattle.program_reading_inner.specs.declared.Most.TheVariants.{Full, Ended, Failed}
use Rattle.program_reading_inner.specs.Says.{MostSays}
use Rattle.set_program_inner.proofs.Input.{input-full, input-ended, input-by}
use Rattle.set_program_inner.proofs.output_of_input.Goals as goal

pub slice_bounds-print_by-end : goal.slice_bounds-print_by-end
slice_bounds-print_by-end c =
    let m : MostSays (Ended c.in-Ended.got) c.args.line.now = rw c.in-Ended.is at c.requires.most_says in
    simp length-take (omega (arith, m))

pub returns-in-Full : goal.returns-in-Full
returns-in-Full c =
    input-by c.args.rule _ _ _ _ c.args.most Full c.in-Full.is (input-full c.args.rule c.args.line.now c.args.buf.now _ _ c.requires.set_line_bytes_in_bounds c.print_by.ensures)

pub returns-in-Ended : goal.returns-in-Ended
returns-in-Ended c =
    input-by c.args.rule _ _ _ _ c.args.most (Ended c.in-Ended.got) c.in-Ended.is (input-ended c.args.rule c.args.line.now c.args.buf.now _ _ c.in-Ended.got c.print_by-in-Ended.ensures)

pub returns-in-Failed : goal.returns-in-Failed
returns-in-Failed c =
    input-by c.args.rule c.args.line.now _ _ _ c.args.most Failed c.in-Failed.is (refl, refl)
