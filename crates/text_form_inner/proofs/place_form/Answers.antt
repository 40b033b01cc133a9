-- `text_form_inner::place_form` meets its contract.
use Rattle.words.proofs.Needs.{arith}
use Rattle.text_fill_spec.proofs.Laws.{filled-short}
use Rattle.text_form_inner.proofs.place_form.Goals as goal

pub place_filled-requires : goal.place_filled-requires
place_filled-requires c =
    omega (arith, c.requires, filled-short c.args.text.now c.args.numbers.now c.args.n c.args.rings.now (λ i. omega (arith, c.type_inv.numbers i)))

pub returns : goal.returns
returns c =
    record { short = filled-short c.args.text.now c.args.numbers.now c.args.n c.args.rings.now (λ i. omega (arith, c.type_inv.numbers i)); placed = c.place_filled.ensures }
