-- `files_write_program_inner::go_again` meets its contract: the two ends are compared.
use Rattle.words.proofs.Needs.{inr}
use Rattle.files_write_program_inner.proofs.Turns.{written-through}
use Rattle.files_write_program_inner.proofs.go_again.Goals as goal

pub returns-in-Ok : goal.returns-in-Ok
returns-in-Ok c = written-through c.args.kind c.args.end _ _ c.in-Ok.ensures c.same_end.ensures

pub returns-in-Err : goal.returns-in-Err
returns-in-Err c = inr c.in-Err.ensures
