-- `test_report::spell` meets its contract. The loop's invariant: the place is inside the output, which keeps its length.
use Rattle.words.proofs.Needs.{◌-◌, arith, sym, length-set, length-take-le}
use Rattle.test_report.proofs.spell.Goals as goal

pub returns-then-word-i : goal.returns-then-word-i
returns-then-word-i c = (omega arith, sym (length-take-le c.loop-i.i c.loop-i.out (omega arith)))

pub loop-i-preserved : goal.loop-i-preserved
loop-i-preserved c = (omega arith, simp length-set (omega arith))

pub returns : goal.returns
returns c = (omega arith, sym (length-take-le c.loop-i.i c.loop-i.out (omega arith)))
