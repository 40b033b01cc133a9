-- `record_packed_body_inner::check_unpacked` meets its contract: each place is in the catalogue, since the byte of a sector is one of the record's.
use Rattle.words.proofs.Needs.{arith}
use Rattle.record_body_inner.proofs.Bodies.{look_in}
use Rattle.record_packed_body_inner.proofs.Bodies.{byte-there, byte-in}
use Rattle.record_packed_body_inner.proofs.check_unpacked.Goals as goal

pub overflow_add-result-in-NoShade : goal.overflow_add-result-in-NoShade
overflow_add-result-in-NoShade c =
    omega (arith, c.requires.0, byte-in _ c.args.k c.args.bytes.now c.requires.2 c.requires.3 _ _ _ c.width_of-b.ensures.width c.in-NoShade.ensures.within c.byte_of.ensures)

pub overflow_sub-result : goal.overflow_sub-result
overflow_sub-result c = byte-there _ c.args.k c.args.bytes.now c.requires.2 c.requires.3 c.requires.1

pub byte_of-requires-in-NotHome : goal.byte_of-requires-in-NotHome
byte_of-requires-in-NotHome c =
    omega (arith, c.width_of-b.ensures.narrow, look_in _ _ c.requires.1 c.in-NotHome.ensures.0, c.requires.1)

pub overflow_add-result-in-NotHome-2 : goal.overflow_add-result-in-NotHome-2
overflow_add-result-in-NotHome-2 c =
    omega (
      arith,
      c.requires.0,
      byte-in _ c.args.k c.args.bytes.now c.requires.2 c.requires.3 _ _ _ c.width_of-b.ensures.width
          (look_in _ _ c.requires.1 c.in-NotHome.ensures.0) c.byte_of-in-NotHome.ensures,
    )
