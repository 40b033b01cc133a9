-- `picture_inner::place_picture` meets its contract.
use Rattle.words.proofs.Needs.{arith}
use Rattle.text_form_inner.proofs.Fits.{fits-append, fits-room}
use Rattle.picture_spec.specs.Text.{picture_text}
use Rattle.picture_inner.proofs.place_picture.Goals as goal

pub place_head-a-requires : goal.place_head-a-requires
place_head-a-requires c = record { n_bound = c.requires.le_k.3; at_in_bounds = omega (arith, c.requires.at_in_bounds) }

pub place_ring-b-requires : goal.place_ring-b-requires
place_ring-b-requires c = record { le_k = c.requires.le_k; below = c.requires.below; at_in_bounds = fits-room c.place_head-a.ensures 16384 (omega (arith, c.requires.at_in_bounds)) }

pub place_tail-requires : goal.place_tail-requires
place_tail-requires c = record {
  n_bound = c.requires.le_k.3;
  at_in_bounds = fits-room (fits-append c.place_head-a.ensures c.place_ring-b.ensures) 64 (omega
      (arith, c.requires.at_in_bounds));
}

pub returns : goal.returns
unfolding picture_text
returns c = fits-append (fits-append c.place_head-a.ensures
    c.place_ring-b.ensures) c.place_tail.ensures
