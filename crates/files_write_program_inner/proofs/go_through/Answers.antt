-- `files_write_program_inner::go_through` meets its contract: the second time follows only a first that went through.
use Rattle.words.proofs.Needs.{refl}
use Rattle.files_write_ending_inner.specs.declared.Time.TheVariants.{First}
use Rattle.files_write_program_inner.specs.Says.{nowhere, stopped}
use Rattle.files_write_program_inner.proofs.Turns.{both-through}
use Rattle.files_write_program_inner.proofs.go_through.Goals as goal

pub returns-in_default : goal.returns-in_default
returns-in_default c = nowhere refl

pub returns-in-Ok : goal.returns-in-Ok
returns-in-Ok c = both-through c.args.kind _ _ c.go_again.ensures

pub returns : goal.returns
returns c = stopped First c.in-Err.ensures
