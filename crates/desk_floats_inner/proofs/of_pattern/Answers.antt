-- `desk_floats_inner::of_pattern` meets its contract.
use Rattle.desk_floats_inner.proofs.Patterns.{another-field, no-digits, zero_by_zero, not-a-number}
use Rattle.words.proofs.Needs.{◌∙◌}
use Rattle.desk_floats_inner.proofs.of_pattern.Goals as goal

pub float_from_bits-result : goal.float_from_bits-result
float_from_bits-result c = another-field _ c.if-bits-ne255.true

pub float_from_bits-result-then-bits-eq0 : goal.float_from_bits-result-then-bits-eq0
float_from_bits-result-then-bits-eq0 c = no-digits _ c.if-bits-eq0.true

pub returns : goal.returns
returns c = zero_by_zero ∙ not-a-number _ c.if-bits-ne255.false c.if-bits-eq0.false
