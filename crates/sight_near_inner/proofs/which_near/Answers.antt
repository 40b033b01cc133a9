-- `sight_near_inner::which_near` meets its contract: the first ring that is near, and whether another is behind it.
use Rattle.sight_near_inner.proofs.Looking.{near_none, near-two, near-one}
use Rattle.sight_near_inner.proofs.which_near.Goals as goal

pub returns-then-m-j : goal.returns-then-m-j
returns-then-m-j c =
    near_none c.args.most c.args.rings.now c.args.reading.now c.first_near-j.result c.first_near-j.ensures c.if-m-j.true

pub returns-then-i-m : goal.returns-then-i-m
returns-then-i-m c =
    near-two c.args.most c.args.rings.now c.args.reading.now c.first_near-j.result c.first_near-i.result c.first_near-j.ensures c.first_near-i.ensures c.if-m-j.false c.if-i-m.true

pub returns : goal.returns
returns c =
    near-one c.args.most c.args.rings.now c.args.reading.now c.first_near-j.result c.first_near-i.result c.first_near-j.ensures c.first_near-i.ensures c.if-m-j.false c.if-i-m.false
