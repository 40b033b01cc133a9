-- `set_output::print_numbers` meets its contract.
use Rattle.set_output.proofs.Output.{numbers-refused, places-fit, numbers-chosen}
use Rattle.set_output.proofs.print_numbers.Goals as goal

pub place_set-requires : goal.place_set-requires
place_set-requires c = record {
  rings = places-fit c.args.rule c.args.n c.args.k c.args.d c.args.wanted c.pick_by-picked.result.places c.pick_by-picked.result.taken c.pick_by-picked.result.full
      (rw c.in-Ok.is at c.pick_by-picked.ensures);
  set_room_in_bounds = c.requires;
}

pub returns-in-Err : goal.returns-in-Err
returns-in-Err c =
    let p = rw c.in-Err.is at c.pick_by-picked.ensures in
    numbers-refused c.args.rule c.args.n c.args.k c.args.d c.args.wanted c.in-Err.r p.0 c.args.buf.now _ _ c.print_refused.ensures

pub returns-in-Ok : goal.returns-in-Ok
returns-in-Ok c =
    numbers-chosen c.args.rule c.args.n c.args.k c.args.d c.args.wanted c.pick_by-picked.result.places c.pick_by-picked.result.taken c.pick_by-picked.result.full
    (rw c.in-Ok.is at c.pick_by-picked.ensures) c.args.buf.now _ _
    c.place_set.ensures
