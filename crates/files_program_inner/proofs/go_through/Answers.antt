-- `files_program_inner::go_through` meets its contract: as often as the job asks.
use Rattle.words.proofs.Needs.{refl}
use Rattle.files_program_inner.specs.Says.FileThroughSays.{nowhere}
use Rattle.files_program_inner.proofs.go_through.Goals as goal

pub returns-in_default : goal.returns-in_default
returns-in_default c = nowhere refl
