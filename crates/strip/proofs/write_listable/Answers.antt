-- `strip::write_listable` meets its contract: the output's length, and then the strip.
use Rattle.words.proofs.Needs.{arith, refl, sym, ◌∙◌, inr}
use Rattle.limits_spec.proofs.Unique.{listable-passed}
use Rattle.strip.proofs.write_listable.Goals as goal

pub power-requires : goal.power-requires
power-requires c = record { k_nonzero = omega (arith, c.requires.shaded.0); e_bound = omega (arith, c.requires.few) }

pub returns-then-out-power : goal.returns-then-out-power
returns-then-out-power c = (inr (listable-passed _ _ _ c.requires, (refl, λ e. c.if-out-power.true (e ∙ sym c.power.ensures))), refl)

pub write_whole-requires : goal.write_whole-requires
write_whole-requires c = record { listable = c.requires; out_len = c.if-out-power.false ∙ c.power.ensures }

pub returns : goal.returns
returns c = (
  c.requires,
  c.if-out-power.false ∙
      c.power.ensures,
  c.write_whole.ensures,
)
