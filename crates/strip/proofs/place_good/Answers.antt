-- `strip::place_good` meets its contract: the power, and then the place.
use Rattle.words.proofs.Needs.{◌^◌, arith, refl, sym, ◌∙◌, inr, length, length-take, ltb-true}
use Rattle.strip.proofs.Telling.{passed-listable}
use Rattle.strip.proofs.place_good.Goals as goal

pub returns-then-power_above : goal.returns-then-power_above
returns-then-power_above c =
    inr (c.requires, (refl, λ h. omega (arith, ltb-true 4096 (c.args.k ^ length c.args.reading.now) (sym c.power_above.ensures ∙ c.if-power_above.true))))

pub power-m-requires : goal.power-m-requires
power-m-requires c =
    let l = passed-listable c.args.reading.now c.args.k c.requires (sym c.if-power_above.false ∙ c.power_above.ensures) in
    record { k_nonzero = omega (arith, l.shaded.0); e_bound = omega (arith, l.few) }

pub slice_bounds-sectors-end : goal.slice_bounds-sectors-end
slice_bounds-sectors-end c =
    omega (arith, c.power-m.ensures, (passed-listable c.args.reading.now c.args.k c.requires (sym c.if-power_above.false ∙ c.power_above.ensures)).few)

pub slice_bounds-place_on-end : goal.slice_bounds-place_on-end
slice_bounds-place_on-end c =
    simp length-take (omega (
      arith,
      c.power-m.ensures,
      (passed-listable c.args.reading.now c.args.k c.requires
          (sym c.if-power_above.false ∙ c.power_above.ensures)).few,
    ))

pub place_on-requires : goal.place_on-requires
place_on-requires c =
    let l = passed-listable c.args.reading.now c.args.k c.requires (sym c.if-power_above.false ∙ c.power_above.ensures) in
    record { passed = c.requires; listable = l; sectors_len = simp length-take (omega (arith, c.power-m.ensures, l.few)) }

pub returns : goal.returns
returns c = (
  c.requires,
  (passed-listable c.args.reading.now c.args.k c.requires
      (sym c.if-power_above.false ∙ c.power_above.ensures)).few,
  c.place_on.ensures,
)
