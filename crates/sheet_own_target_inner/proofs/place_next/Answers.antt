-- `sheet_own_target_inner::place_next` meets its contract.
use Rattle.words.proofs.Needs.{arith}
use Rattle.sheet_lines_inner.proofs.Lines.{reached-inside, reached-line, reached-on}
use Rattle.sheet_own_target_inner.proofs.Targets.{line-passed, line_step}
use Rattle.sheet_own_target_inner.proofs.place_next.Goals as goal

pub line_end-e-requires : goal.line_end-e-requires
line_end-e-requires c =
    reached-inside c.args.s.now c.args.at c.args.i c.requires.line_reached.0 (omega (arith, c.requires.count_value.0, c.requires.line_reached.1))

pub place_line-m-requires : goal.place_line-m-requires
place_line-m-requires c =
    let l = reached-line c.args.s.now c.args.at c.args.i c.requires.line_reached.0 _ c.line_end-e.ensures in
    record {
      passed = line-passed c.args.sheet c.args.s.now c.args.i _ l.1 (c.requires.count_value.1 c.args.i c.requires.line_reached.1);
      target_room_in_bounds = c.requires.target_room_in_bounds;
    }

pub returns : goal.returns
returns c =
    let l = reached-line c.args.s.now c.args.at c.args.i c.requires.line_reached.0 _ c.line_end-e.ensures in
    let n = reached-on c.args.s.now c.args.at c.args.i c.requires.line_reached.0 _ c.line_end-e.ensures in
    line_step c.args.sheet c.args.s.now c.args.i _ l.1 c.args.count c.args.buf.now _ _ _ c.place_line-m.ensures n
