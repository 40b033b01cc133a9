-- `converter_program_inner::go_through` meets its contract.
use Rattle.words.proofs.Needs.{false}
use Rattle.converter_program_inner.specs.Says.ThroughSays.{stopped}
use Rattle.converter_program_inner.proofs.Times.{through-whole}
use Rattle.converter_program_inner.proofs.go_through.Goals as goal

pub returns-in-Ok : goal.returns-in-Ok
returns-in-Ok c = through-whole _ _ c.in-Ok.ensures c.write_to.ensures

pub returns : goal.returns
returns c = stopped false c.in-Err.ensures
