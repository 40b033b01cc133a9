-- `stream_program_inner::turn` meets its contract.
use Rattle.words.proofs.Needs.{arith, length-take}
use Rattle.stream_program_inner.proofs.Stopping.{turn_inside}
use Rattle.stream_program_inner.proofs.turn.Goals as goal

pub place_turn-q-requires : goal.place_turn-q-requires
place_turn-q-requires c =
    record {
      line_len = c.requires.line_len;
      len_in_bounds = c.requires.len_in_bounds;
      room_for_read = record {
        some = omega (arith, c.read_some-got.auto.block, c.requires.block_nonzero.0);
        room = rw c.read_some-got.auto.block c.requires.block_nonzero.1;
        inside = c.read_some-got.ensures;
      };
    }

pub slice_bounds-write_all-end : goal.slice_bounds-write_all-end
slice_bounds-write_all-end c =
    omega (arith, turn_inside _ _ _ _ _ _ _ c.read_some-got.result c.place_turn-q.ensures.behind_read, c.place_turn-q.auto.buf)

pub slice_bounds-write_all-end-2 : goal.slice_bounds-write_all-end-2
slice_bounds-write_all-end-2 c =
    simp length-take (omega (arith, turn_inside _ _ _ _ _ _ _ c.read_some-got.result c.place_turn-q.ensures.behind_read, c.place_turn-q.auto.buf))

pub returns : goal.returns
returns c = record { len_in_bounds_2 = c.place_turn-q.ensures.len_in_bounds_2; read_answered = (c.place_turn-q.result.at, c.place_turn-q.ensures.behind_read) }
