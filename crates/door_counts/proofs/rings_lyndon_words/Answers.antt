-- `door_counts::rings_lyndon_words` meets its contract.
use Rattle.door_counts.proofs.rings_lyndon_words.Goals as goal

pub returns : goal.returns
returns c = record { answer = c.lyndon_words.result; says = c.lyndon_words.ensures; same = c.number.ensures }
