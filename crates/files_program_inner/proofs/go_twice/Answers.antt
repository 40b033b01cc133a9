-- `files_program_inner::go_twice` meets its contract: the second time follows only a first that went through.
use Rattle.files_time_inner.specs.declared.Time.TheVariants.{First}
use Rattle.files_program_inner.specs.Says.FileThroughSays.{stopped}
use Rattle.files_program_inner.proofs.Times.{roomy-still, through-written}
use Rattle.files_program_inner.proofs.go_twice.Goals as goal

pub go_again-requires : goal.go_again-requires
go_again-requires c = roomy-still _ _ _ _ c.requires.roomy_file c.block-1.given c.out-1.given

pub returns-in-Ok : goal.returns-in-Ok
returns-in-Ok c = through-written c.args.job _ _ c.requires.job_value c.go_again.ensures

pub returns-in-Err : goal.returns-in-Err
returns-in-Err c = stopped First c.requires.job_value c.in-Err.ensures
