-- `converter_program_inner::write_to` meets its contract.
use Rattle.converter_program_inner.proofs.Times.{written-through}
use Rattle.converter_program_inner.proofs.write_to.Goals as goal

pub returns-in-Ok : goal.returns-in-Ok
returns-in-Ok c = written-through c.args.end c.in-Ok.again _ c.in-Ok.ensures c.same_end.ensures
