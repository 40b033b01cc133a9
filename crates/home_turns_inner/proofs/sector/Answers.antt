-- `home_turns_inner::sector` meets its contract: `around` gives the place of the sector.
use Rattle.home_turns_inner.proofs.Places.{sector-around}
use Rattle.home_turns_inner.proofs.sector.Goals as goal

pub returns : goal.returns
returns c =
    sector-around c.args.s.now c.args.i c.args.m c.around-p.result c.requires.0 c.requires.1
    c.around-p.ensures
