-- Whether another page follows.
--     goes_on wrote m        does another page follow one of m bytes? wrote: could they be written?
use Rattle.std.specs.Prelude.{ℕ, Bool, ◌&&◌, ltb}

abbrev pub goes_on : Bool → ℕ → Bool
goes_on wrote m = wrote && ltb 0 m
