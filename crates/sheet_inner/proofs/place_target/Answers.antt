-- `sheet_inner::place_target` meets its contract.
use Rattle.words.proofs.Needs.{arith}
use native.Mathlib.Nat.{div-le_self}
use Rattle.text_form_inner.proofs.Fits.{fits-append, fits-room}
use Rattle.sheet_inner.proofs.Cells.{target_fits}
use Rattle.sheet_inner.proofs.place_target.Goals as goal

pub place_home-b-requires : goal.place_home-b-requires
place_home-b-requires c =
    record {
      le_k = c.requires.le_k;
      below = c.requires.below;
      fits_page = c.requires.fits_page;
      at_in_bounds = fits-room c.place_opening-a.ensures 17792 (omega (arith, c.requires.in_bounds));
    }

pub place_closing-requires : goal.place_closing-requires
place_closing-requires c = (
  omega (arith, c.requires.le_k.4, div-le_self c.args.i c.per_page-per.result),
  fits-room (fits-append c.place_opening-a.ensures c.place_home-b.ensures) 320
      (omega (arith, c.requires.in_bounds)),
)

pub returns : goal.returns
returns c =
    target_fits _ _ _ c.args.ring.now _ _ c.per_page-per.ensures.0
    c.ends_page-ends.ensures _ _ _ _ (fits-append (fits-append c.place_opening-a.ensures
    c.place_home-b.ensures) c.place_closing.ensures)
