-- `converter_pass_inner::take_at` meets its contract: what was read is gone through.
use Rattle.words.proofs.Needs.{arith, refl, length-take}
use Rattle.program_passes_inner.specs.Passes.{course_of}
use Rattle.program_passes_inner.proofs.Courses.{part-read, part-within}
use Rattle.converter_pass_inner.proofs.Blocks.{at_read}
use Rattle.converter_pass_inner.proofs.take_at.Goals as goal

pub returns : goal.returns
returns c =
    let s = part-within _ _ c.in-Some.ensures in
    let k = simp length-take at c.take_block.auto.new in
    at_read c.args.writing c.args.at _ c.args.new.now _ _ c.in-Some.part.last c.in-Some.part.len (course_of c.take_block.result)
    (part-read _ _ c.in-Some.ensures) (omega (arith, k, s, c.requires.buffers_fit.same, c.read_block.auto.block)) refl c.take_block.ensures
