-- `converter_sides_inner::turn_over` meets its contract: what was reversed is brought home.
use Rattle.rings.specs.{Alike.mirrored, Home.home}
use Rattle.words.proofs.Needs.{◌∙◌, ap}
use Rattle.converter_sides_inner.proofs.turn_over.Goals as goal

pub returns : goal.returns
unfolding mirrored
returns c = c.settle.ensures ∙ ap home c.write_reversed.ensures
