-- `sheet_own_target_inner::place_line` meets its contract.
use Rattle.words.proofs.Needs.{arith, length-take}
use Rattle.sheet_own_target_inner.proofs.Targets.{line-short}
use Rattle.sheet_own_target_inner.proofs.place_line.Goals as goal

pub slice_bounds-ring-end : goal.slice_bounds-ring-end
slice_bounds-ring-end c =
    line-short c.args.sheet c.args.line.now c.args.i c.requires.passed

pub slice_bounds-place_spelt-end : goal.slice_bounds-place_spelt-end
slice_bounds-place_spelt-end c =
    simp length-take (omega (arith, line-short c.args.sheet c.args.line.now c.args.i c.requires.passed))

pub place_spelt-requires : goal.place_spelt-requires
place_spelt-requires c =
    record {
      passed = c.requires.passed;
      ring_len = simp length-take (omega (arith, line-short c.args.sheet c.args.line.now c.args.i c.requires.passed));
      target_room_in_bounds = c.requires.target_room_in_bounds;
    }
