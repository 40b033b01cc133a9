-- `walk_reading::next_necklace` meets its contract.
use Rattle.walk_kind_laws.specs.Kinds.{kind_of}
use Rattle.walk_reading.proofs.next_necklace.Goals as goal

pub returns : goal.returns
unfolding kind_of
returns c = c.step.ensures
