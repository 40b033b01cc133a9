-- `desk_floats_inner::pattern_at` meets its contract.
use Rattle.desk_floats_inner.proofs.Patterns.{pattern-bytes}
use Rattle.desk_floats_inner.proofs.pattern_at.Goals as goal

pub returns : goal.returns
returns c =
    pattern-bytes c.args.s.now c.args.at _ _ _ _
    c.byte_at-a.ensures.0 c.byte_at-b.ensures.0 c.byte_at-c.ensures.0
    c.byte_at-d.ensures.0
