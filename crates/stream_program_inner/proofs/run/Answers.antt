-- `stream_program_inner::run` is safe and ends.
use Rattle.words.proofs.Needs.{arith, length-take}
use Rattle.program_ending_inner.proofs.Unique.{say-within}
use Rattle.stream_program_inner.proofs.Stopping.{first-room, first-long}
use Rattle.stream_program_inner.proofs.run.Goals as goal

pub slice_bounds-pump-end : goal.slice_bounds-pump-end
slice_bounds-pump-end c = simp length-take (omega (arith, c.block_length-n.ensures))

pub slice_bounds-pump-end-2 : goal.slice_bounds-pump-end-2
slice_bounds-pump-end-2 c = simp length-take (omega (arith, c.kept_bytes-m.ensures))

pub pump-left-requires : goal.pump-left-requires
pump-left-requires c =
    record {
      line_len = first-long _ _ _ (omega (arith, c.kept_bytes-m.ensures)) c.kept_bytes-m.ensures.0;
      block_nonzero = first-room _ _ _ _ (omega (arith, c.block_length-n.ensures)) c.block_length-n.ensures.0
          (omega (arith, c.block_length-n.ensures, c.wide_buffer-buf.ensures));
    }

pub slice_bounds-buf-end : goal.slice_bounds-buf-end
slice_bounds-buf-end c = omega (arith, say-within _ _ _ _ c.say-k.ensures, c.say-k.auto)

pub slice_bounds-write_all-end : goal.slice_bounds-write_all-end
slice_bounds-write_all-end c = simp length-take (omega (arith, say-within _ _ _ _ c.say-k.ensures, c.say-k.auto))
