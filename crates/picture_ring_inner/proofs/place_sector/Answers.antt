-- `picture_ring_inner::place_sector` meets its contract.
use Rattle.words.proofs.Needs.{◌+◌, arith}
use Rattle.picture_ring_inner.proofs.Drawing.{fits_on, fits-arc, run-le}
use Rattle.picture_ring_inner.proofs.place_sector.Goals as goal

pub returns-then-s-before : goal.returns-then-s-before
returns-then-s-before c =
    fits_on c.args.tone _ c.args.k c.args.before (c.args.o + c.args.i) c.args.ring.now c.args.i c.requires.le_k.4 c.args.buf.now c.args.at c.if-s-before.true

pub place_arc-requires-clause-n_nonzero : goal.place_arc-requires-clause-n_nonzero
place_arc-requires-clause-n_nonzero c = (omega (arith, c.requires.le_k.4), c.requires.le_k.2, run-le _ c.args.ring.now c.args.i _ c.run_at-d.ensures)

pub returns : goal.returns
returns c =
    fits-arc c.args.tone _ c.args.k c.args.before (c.args.o + c.args.i) c.args.ring.now c.args.i c.requires.le_k.4
    c.args.buf.now c.args.at c.if-s-before.false _ _ c.run_at-d.ensures
    c.gray_of-g.ensures _ _ c.place_arc.ensures
