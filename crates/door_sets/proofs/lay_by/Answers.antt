-- `door_sets::lay_by` meets its contract.
use Rattle.guard_spec.specs.Choice.{chosen_by}
use Rattle.door_sets.proofs.Laying.{laid-room}
use Rattle.door_sets.proofs.lay_by.Goals as goal

pub returns-then-out-ne-PLACES : goal.returns-then-out-ne-PLACES
returns-then-out-ne-PLACES c =
    laid-room c.args.n c.args.k c.args.d c.args.wanted (chosen_by c.args.rule c.args.n c.args.k c.args.d c.args.wanted) c.args.out.now c.if-out-ne-PLACES.true

pub lay-requires : goal.lay-requires
lay-requires c = c.if-out-ne-PLACES.false

pub returns : goal.returns
returns c =
    c.lay.ensures c.args.n c.args.k c.args.d c.args.wanted (chosen_by c.args.rule c.args.n c.args.k c.args.d c.args.wanted)
    c.pick_by.ensures
