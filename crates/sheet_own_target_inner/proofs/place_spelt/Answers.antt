-- `sheet_own_target_inner::place_spelt` meets its contract.
use Rattle.sheet_own_target_inner.proofs.Targets.{line-placed, line-never}
use Rattle.sheet_own_target_inner.proofs.place_spelt.Goals as goal

pub returns-in-Ok : goal.returns-in-Ok
returns-in-Ok c =
    line-placed c.args.sheet c.args.line.now c.args.i c.requires.passed _ c.spell.result c.spell.ensures c.args.last c.args.buf.now _ _ c.target.ensures c.in-Ok.m c.in-Ok.is

pub returns-in-Err : goal.returns-in-Err
returns-in-Err c =
    absurd (line-never c.args.sheet c.args.line.now c.args.i c.requires.passed _ c.spell.result c.spell.ensures c.args.last c.args.buf.now _ _ c.target.ensures
    c.requires.target_room_in_bounds c.in-Err.field-0
    c.in-Err.is)
