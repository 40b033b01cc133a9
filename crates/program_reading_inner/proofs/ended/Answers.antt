-- `program_reading_inner::ended` meets its contract.
use Rattle.words.proofs.Needs.{refl}
use Rattle.program_reading_inner.proofs.ended.Goals as goal

pub returns-in-Bytes : goal.returns-in-Bytes
returns-in-Bytes c = rw c.in-Bytes.is refl

pub returns-in-Over : goal.returns-in-Over
returns-in-Over c = rw c.in-Over.is refl

pub returns-in-Failed : goal.returns-in-Failed
returns-in-Failed c = rw c.in-Failed.is refl
