-- `program_ending_inner::say` meets its contract: there is no room, or the text is placed.
use Rattle.words.proofs.Needs.{refl}
use Rattle.program_ending_inner.specs.Text.SaySays.{small, said}
use Rattle.program_ending_inner.proofs.say.Goals as goal

pub returns-then-buf-lt-ROOM : goal.returns-then-buf-lt-ROOM
returns-then-buf-lt-ROOM c = small c.if-buf-lt-ROOM.true refl refl

pub returns : goal.returns
returns c = said c.if-buf-lt-ROOM.false c.place_ending.ensures
