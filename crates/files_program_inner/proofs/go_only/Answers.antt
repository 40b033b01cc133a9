-- `files_program_inner::go_only` meets its contract: the end was reached, or why not.
use Rattle.words.proofs.Needs.{refl}
use Rattle.files_time_inner.specs.declared.Time.TheVariants.{Only}
use Rattle.files_program_inner.specs.Says.FileThroughSays.{stopped, whole}
use Rattle.files_program_inner.proofs.go_only.Goals as goal

pub returns-in-Ok : goal.returns-in-Ok
returns-in-Ok c = whole _ c.in-Ok.ensures refl

pub returns-in-Err : goal.returns-in-Err
returns-in-Err c = stopped Only c.requires.job_value c.in-Err.ensures
