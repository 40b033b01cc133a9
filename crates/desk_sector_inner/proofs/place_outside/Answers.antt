-- `desk_sector_inner::place_outside` meets its contract.
use Rattle.desk_floats_inner.proofs.Patterns.{number-bits}
use Rattle.desk_sector_inner.proofs.place_outside.Goals as goal

pub float_to_bits-b : goal.float_to_bits-b
float_to_bits-b c = number-bits _ c.requires.x_value

pub returns : goal.returns
returns c =
    rw (c.digit.ensures, c.digit-2.ensures, c.digit-3.ensures, c.digit-4.ensures, c.digit-5.ensures, c.digit-6.ensures, c.digit-7.ensures, c.digit-8.ensures) at c.place_ring_line.ensures
