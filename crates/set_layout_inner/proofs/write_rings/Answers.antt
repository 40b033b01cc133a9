-- `set_layout_inner::write_rings` meets its contract. The loop's invariant: the first j rings stand at the beginning of the output.
use Rattle.words.proofs.Needs.{arith}
use Rattle.set_layout_inner.proofs.Laying.{ring-room, laid-start, laid_on}
use Rattle.set_layout_inner.proofs.write_rings.Goals as goal

pub loop-j-init : goal.loop-j-init
loop-j-init c = laid-start c.requires.3

pub loop-j-preserved : goal.loop-j-preserved
loop-j-preserved c =
    laid_on
    record {
      at = c.loop-j.invariant;
      more = c.loop-j-test.true;
      fits = omega (arith, c.requires, c.loop-j-test.true);
      room = omega (arith, c.loop-j.invariant.long, ring-room c.args.n c.loop-j.j c.args.taken c.loop-j-test.true);
    }
    c.copy_from_slice.ensures.after
