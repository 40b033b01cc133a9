-- `stream_kind_inner::block_length` meets its contract.
use Rattle.words.proofs.Needs.{rules}
use Rattle.stream_kind_inner.proofs.block_length.Goals as goal

pub returns-in-Count : goal.returns-in-Count
returns-in-Count c = rw c.in-Count.is (search rules)

pub returns-in-Desk : goal.returns-in-Desk
returns-in-Desk c = rw c.in-Desk.is (search rules)
