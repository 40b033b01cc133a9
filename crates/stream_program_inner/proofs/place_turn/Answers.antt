-- `stream_program_inner::place_turn` meets its contract.
use Rattle.words.proofs.Needs.{arith, refl, length-take}
use Rattle.stream_program_inner.proofs.Stopping.{take-room, line-room, got-inside, turn-bytes, turn-over, turn-failed}
use Rattle.stream_program_inner.proofs.place_turn.Goals as goal

pub slice_bounds-take_bytes-end : goal.slice_bounds-take_bytes-end
slice_bounds-take_bytes-end c =
    (got-inside c.args.got _ _ c.in-Bytes.is c.requires.room_for_read.inside).1

pub take_bytes-requires : goal.take_bytes-requires
take_bytes-requires c =
    record {
      line_len = c.requires.line_len;
      len_in_bounds = c.requires.len_in_bounds;
      kind_in_bounds = take-room _ _ c.args.block.now _ _ (got-inside c.args.got _ _ c.in-Bytes.is c.requires.room_for_read.inside).0 refl c.requires.room_for_read.room;
    }

pub slice_bounds-place_last-end-in-Over : goal.slice_bounds-place_last-end-in-Over
slice_bounds-place_last-end-in-Over c = simp length-take (omega (arith, c.requires.len_in_bounds))

pub place_last-at-requires : goal.place_last-at-requires
place_last-at-requires c =
    line-room _ _ _ c.requires.room_for_read.some c.requires.room_for_read.room

pub returns-in-Bytes : goal.returns-in-Bytes
returns-in-Bytes c =
    record {
      len_in_bounds_2 = c.take_bytes.ensures.len_in_bounds_2;
      behind_read = turn-bytes c.args.kind _ c.args.block.now _ _ _ _ c.args.got _ c.in-Bytes.is c.take_bytes.ensures.block_says;
    }

pub returns-in-Over : goal.returns-in-Over
returns-in-Over c = record { len_in_bounds_2 = omega arith; behind_read = turn-over c.args.kind _ _ _ _ _ _ c.args.got c.in-Over.is c.place_last-at.ensures }

pub returns-in-Failed : goal.returns-in-Failed
returns-in-Failed c =
    record {
      len_in_bounds_2 = omega (arith, c.requires.len_in_bounds, c.behind_failure.ensures.0);
      behind_read = turn-failed c.args.kind c.args.got c.args.line.now _ _ c.args.len _ _ c.in-Failed.is c.behind_failure.ensures.0 c.behind_failure.ensures.1;
    }
