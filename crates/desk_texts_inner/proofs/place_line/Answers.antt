-- `desk_texts_inner::place_line` meets its contract. A number of 64 bits has at most 20 digits.
use Rattle.words.proofs.Needs.{arith}
use Rattle.text_fill_spec.proofs.Laws.{filled-short}
use Rattle.desk_texts_inner.proofs.place_line.Goals as goal

pub place_filled-requires : goal.place_filled-requires
place_filled-requires c =
    omega (
      arith,
      c.requires,
      filled-short c.args.text.now c.args.numbers.now c.args.n c.args.ring.now
          (λ i. omega (arith, c.type_inv.numbers i)),
    )

pub returns : goal.returns
returns c =
    record {
      short =
          omega (arith, c.requires, filled-short c.args.text.now c.args.numbers.now c.args.n c.args.ring.now (λ i. omega (arith, c.type_inv.numbers i)));
      placed = c.place_filled.ensures;
    }
