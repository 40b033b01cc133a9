-- `sheet_print_inner::prepare` meets its contract.
use Rattle.words.proofs.Needs.{sym, ◌∙◌}
use Rattle.sheet_print_inner.proofs.Ready.{prepared-set, refused-set, prepared-lines}
use Rattle.sheet_print_inner.proofs.prepare.Goals as goal

pub returns-then-is_own : goal.returns-then-is_own
returns-then-is_own c =
    let l = rw c.in-Some.is at c.read_line.ensures in
    prepared-lines c.args.s.now _ c.piece_end-e.ensures c.in-Some.sheet l (sym c.is_own.ensures ∙ c.if-is_own.true) c.behind-from.result c.behind-from.ensures
    c.prepare_own.result c.prepare_own.ensures

pub returns-in-Err : goal.returns-in-Err
returns-in-Err c =
    let l = rw c.in-Some.is at c.read_line.ensures in
    refused-set c.args.s.now _ c.piece_end-e.ensures c.in-Some.sheet l (sym c.is_own.ensures ∙ c.if-is_own.false) c.if-s-e-gt1.false c.in-Err.r
    (rw c.in-Err.is at c.prepare_set.ensures)

pub returns-in-Ok : goal.returns-in-Ok
returns-in-Ok c =
    let l = rw c.in-Some.is at c.read_line.ensures in
    prepared-set c.args.s.now _ c.piece_end-e.ensures c.in-Some.sheet l (sym c.is_own.ensures ∙ c.if-is_own.false) c.if-s-e-gt1.false c.in-Ok.rings
    (rw c.in-Ok.is at c.prepare_set.ensures)
