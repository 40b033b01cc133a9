-- What writing a sheet promises.
--     AllWritten r t      where every write went through, all t targets were written, one by one
use Rattle.std.specs.Prelude.{ℕ, ◌≡◌, Result, Ok, Err}

abbrev pub AllWritten : Result ℕ ℕ → ℕ → Type 0
AllWritten (Ok m) t = m ≡ t
AllWritten (Err m) t = Unit
