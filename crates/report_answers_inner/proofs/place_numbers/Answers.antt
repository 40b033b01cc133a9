-- `report_answers_inner::place_numbers` meets its contract.
use Rattle.words.proofs.Needs.{arith}
use Rattle.text_spec.proofs.Put.{placed-length}
use Rattle.report_laws.proofs.Room.{counts-short}
use Rattle.report_answers_inner.proofs.place_numbers.Goals as goal

pub place_counts-requires : goal.place_counts-requires
place_counts-requires c =
    rw (c.necklaces_of-x.ensures, c.lyndon_of-y.ensures) (omega (arith, c.requires, counts-short c.args.k c.args.n c.requires.listable))

pub shape_of-buf : goal.shape_of-buf
shape_of-buf c = placed-length _ _ _ _ _ c.place_counts.ensures

pub returns : goal.returns
returns c = rw (c.necklaces_of-x.ensures, c.lyndon_of-y.ensures) at c.place_counts.ensures
