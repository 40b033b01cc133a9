-- `home_shift_inner::period_of` meets its contract. The loop's invariant: nothing below p repeats the reading.
use Rattle.words.proofs.Needs.{◌∙◌, sym}
use Rattle.home_shift_inner.proofs.Least.{unrepeated-found, unrepeated-end}
use Rattle.home_shift_inner.proofs.period_of.Goals as goal

pub returns-then-repeats_by : goal.returns-then-repeats_by
returns-then-repeats_by c =
    unrepeated-found c.args.s.now c.loop-p.p
    c.loop-p.invariant (sym c.if-repeats_by.true ∙ c.repeats_by.ensures)

pub returns : goal.returns
returns c = unrepeated-end c.args.s.now c.loop-p.p c.loop-p.invariant c.loop-p-test.false
