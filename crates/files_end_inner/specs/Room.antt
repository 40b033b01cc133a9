-- The room that the end takes.
--     end_room   what stands behind the last record has no more bytes
use Rattle.std.specs.Prelude.{ℕ}

abbrev pub end_room : ℕ
end_room = 80
