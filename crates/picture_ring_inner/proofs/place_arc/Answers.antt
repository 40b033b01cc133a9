-- `picture_ring_inner::place_arc` meets its contract.
use Rattle.words.proofs.Needs.{rules}
use Rattle.words.proofs.Needs.{◌<◌, arith}
use native.Mathlib.Nat.{mod-lt}
use Rattle.text_fill_spec.specs.Filled.{slots, longest}
use Rattle.text_form_inner.proofs.Fits.{fits_more}
use Rattle.picture_ring_inner.proofs.place_arc.Goals as goal

pub overflow_mul-from : goal.overflow_mul-from
overflow_mul-from c =
    let z : 0 < c.args.n = c.requires.n_nonzero.0 in
    omega (arith, mod-lt c.args.i z)

pub place_form-requires : goal.place_form-requires
unfolding longest slots
place_form-requires c = search rules

pub returns : goal.returns
unfolding longest slots
returns c = fits_more c.place_form.ensures 256 (omega arith)
