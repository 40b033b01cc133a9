-- Whether the all-zero ring is taken: it is a Lyndon word only where n is 1, and in no guarded set.
use Rattle.std.specs.Prelude.{ℕ, eqb}
use Rattle.words.specs.Readings.{bit}
use Rattle.guard_spec.specs.declared.Rule.{Rule}
use Rattle.guard_spec.specs.declared.Rule.TheVariants.{Plain, Guarded}

-- 1 where it is, 0 where it is not
abbrev pub zero_taken : Rule → ℕ → ℕ
zero_taken Plain n = bit (eqb n 1)
zero_taken Guarded n = 0
