-- `files_records_inner::take_one` meets its contract: the record is read and shown, or refused.
use Rattle.files_records_inner.proofs.Going.{answered-ring, step_after}
use Rattle.files_records_inner.proofs.take_one.Goals as goal

pub place_record-e-requires : goal.place_record-e-requires
place_record-e-requires c =
    record {
      answered = answered-ring c.args.rest.now c.args.place c.args.ring.now c.in_ok-found.found c.read_head.new.out c.requires.held.1 c.in_ok-found.ensures;
      record_room_in_bounds = c.requires.record_room_in_bounds;
    }

pub returns : goal.returns
returns c = step_after c.args.rest.now c.args.place c.args.ring.now c.in_ok-found.found c.read_head.new.out c.requires.held.1 c.in_ok-found.ensures _ _ _ _ _ c.place_record-e.ensures
