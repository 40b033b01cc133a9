-- How long what is said of a refused line may be.
--     refused_line_room      it is no longer
use Rattle.std.specs.Prelude.{ℕ}

abbrev pub refused_line_room : ℕ
refused_line_room = 100
