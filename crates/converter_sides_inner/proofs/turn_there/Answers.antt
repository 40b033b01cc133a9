-- `converter_sides_inner::turn_there` meets its contract: three reversals are a turn.
use Rattle.words.proofs.Needs.{refl}
use Rattle.converter_sides_inner.proofs.Turning.{turned-there}
use Rattle.converter_sides_inner.proofs.turn_there.Goals as goal

pub returns : goal.returns
returns c =
    turned-there c.args.i _ c.args.a.now _ _ _ c.requires refl c.reverse.ensures
    c.reverse-2.ensures c.reverse-3.ensures
