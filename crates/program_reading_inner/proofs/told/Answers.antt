-- `program_reading_inner::told` meets its contract.
use mir.Facts.{to_z-of_z}
use Rattle.program_reading_inner.proofs.Telling.{told-failed, told_over, told-bytes}
use Rattle.program_reading_inner.proofs.told.Goals as goal

-- `program_reading_inner::told` meets its contract.
pub returns-then-got-lt0 : goal.returns-then-got-lt0
returns-then-got-lt0 c = told-failed c.args.got _ (to_z-of_z c.ranges.got) c.if-got-lt0.true

pub returns-then-n-eq0 : goal.returns-then-n-eq0
returns-then-n-eq0 c =
    told_over c.args.got _ (to_z-of_z c.ranges.got) c.if-got-lt0.false _ c.requires _ c.count-n.ensures.value c.if-n-eq0.true

pub returns : goal.returns
returns c =
    told-bytes c.args.got _ (to_z-of_z c.ranges.got) c.if-got-lt0.false _ c.requires _ c.count-n.ensures.value c.if-n-eq0.false
