-- `files_program_inner::go_again` meets its contract: a second time that ends elsewhere is told.
use Rattle.words.proofs.Needs.{inr}
use Rattle.files_program_inner.proofs.Times.{written-told}
use Rattle.files_program_inner.proofs.go_again.Goals as goal

pub returns-in-Ok : goal.returns-in-Ok
returns-in-Ok c = written-told c.args.job c.args.end c.in-Ok.again _ c.in-Ok.ensures c.same_end.ensures

pub returns-in-Err : goal.returns-in-Err
returns-in-Err c = inr c.in-Err.ensures
