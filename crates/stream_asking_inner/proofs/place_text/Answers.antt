-- `stream_asking_inner::place_text` meets its contract.
use Rattle.stream_kind_inner.specs.Says.{Said}
use Rattle.stream_asking_inner.proofs.place_text.Goals as goal

pub place_answer-requires : goal.place_answer-requires
place_answer-requires c = rw c.in-Count.is at c.requires

pub place_answer-requires-in-Desk : goal.place_answer-requires-in-Desk
place_answer-requires-in-Desk c = rw c.in-Desk.is at c.requires

pub returns-in-Count : goal.returns-in-Count
unfolding Said
returns-in-Count c = rw (c.in-Count.is, Said) c.place_answer.ensures

pub returns-in-Desk : goal.returns-in-Desk
unfolding Said
returns-in-Desk c = rw (c.in-Desk.is, Said) c.place_answer-in-Desk.ensures
