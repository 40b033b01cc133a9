-- `stream_blocks_inner::take_byte` meets its contract.
use Rattle.words.proofs.Needs.{arith, refl, length-take}
use Rattle.stream_spec.specs.Blocks.{ends}
use Rattle.stream_kind_inner.specs.Says.{Said, room_of}
use Rattle.stream_blocks_inner.proofs.Holding.{held-ends, held_kept}
use Rattle.stream_blocks_inner.proofs.take_byte.Goals as goal

pub slice_bounds-place_text-end-in-None : goal.slice_bounds-place_text-end-in-None
slice_bounds-place_text-end-in-None c =
    simp length-take (omega (arith, c.hold_byte.auto, c.requires.len_in_bounds))

pub returns-in-None : goal.returns-in-None
returns-in-None c =
    let h = held-ends c.args.b c.args.len c.args.line.now _ _ c.in-None.is c.hold_byte.ensures in
    record { len_in_bounds_2 = omega arith; byte_says = ends h.0 refl (rw h.1 at c.place_text-next.ensures) }

pub returns-in-Some : goal.returns-in-Some
returns-in-Some c =
    record {
      len_in_bounds_2 = (held_kept c.args.b c.args.len c.args.line.now _ _ (Said c.args.kind) (room_of c.args.kind) c.args.at c.args.buf.now _
          c.in-Some.is c.requires.len_in_bounds c.hold_byte.ensures).0;
      byte_says = (held_kept c.args.b c.args.len c.args.line.now _ _ _ _ c.args.at c.args.buf.now _ c.in-Some.is c.requires.len_in_bounds c.hold_byte.ensures).1;
    }
