-- `files_text_inner::place_line` meets its contract: the line has room, and is that of its form.
use Rattle.words.proofs.Needs.{rules}
use Rattle.words.proofs.Needs.{arith}
use Rattle.files_text_inner.proofs.Placing.{line-short, answered-few}
use Rattle.record_spec.specs.declared.Kind.TheVariants.{Front, Packed}
use Rattle.files_text_inner.proofs.place_line.Goals as goal

pub place_filled-requires : goal.place_filled-requires
place_filled-requires c =
    let few = answered-few _ _ _ c.requires.answered in
    let f = line-short c.args.at_record Front c.args.record.n c.args.record.k c.args.ring.now (search rules) (search rules) (search rules) few in
    let p = line-short c.args.at_record Packed c.args.record.n c.args.record.k c.args.ring.now (search rules) (search rules) (search rules) few in
    omega (arith, c.requires.record_room_in_bounds, f, p)

pub place_filled-requires-in-Packed : goal.place_filled-requires-in-Packed
place_filled-requires-in-Packed c =
    let few = answered-few _ _ _ c.requires.answered in
    let f = line-short c.args.at_record Front c.args.record.n c.args.record.k c.args.ring.now (search rules) (search rules) (search rules) few in
    let p = line-short c.args.at_record Packed c.args.record.n c.args.record.k c.args.ring.now (search rules) (search rules) (search rules) few in
    omega (arith, c.requires.record_room_in_bounds, f, p)
