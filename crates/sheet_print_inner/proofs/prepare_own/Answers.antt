-- `sheet_print_inner::prepare_own` meets its contract.
use Rattle.stream_spec.specs.Lines.{lines}
use Rattle.sheet_print_inner.proofs.Ready.{own-wrong}
use Rattle.sheet_print_inner.proofs.prepare_own.Goals as goal

pub returns-in-Err : goal.returns-in-Err
returns-in-Err c = own-wrong c.args.sheet (lines c.args.text.now) _ c.own_sheet-own.ensures c.args.from c.in-Err.wrong (rw c.in-Err.is at c.check_lines.ensures)
