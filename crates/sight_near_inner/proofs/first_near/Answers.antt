-- `sight_near_inner::first_near` meets its contract. The loop's invariant: the rings from `from` up to j are further than `most` from the reading.
use Rattle.sight_near_inner.proofs.Looking.{far-on, part-far}
use Rattle.sight_near_inner.proofs.first_near.Goals as goal

pub loop-j-preserved : goal.loop-j-preserved
loop-j-preserved c =
    far-on c.args.most c.args.rings.now c.args.reading.now c.args.from c.loop-j.j
    c.loop-j.invariant (part-far c.args.most c.args.rings.now
    c.args.reading.now c.loop-j.j
    c.limit_of-limit.result c.is_nearer.result
    c.limit_of-limit.ensures c.is_nearer.ensures c.if-is_nearer.false)
