-- `report::feed` meets its contract.
use Rattle.words.proofs.Needs.{rules}
use Rattle.words.proofs.Needs.{◌≡◌, length}
use Rattle.stream_kind_inner.specs.Says.{Said}
use Rattle.report.proofs.Making.{feed-says}
use Rattle.report.proofs.feed.Goals as goal

pub returns : goal.returns
unfolding Said
returns c =
    let l : length c.args.p.line ≡ 9 = search rules in
    feed-says c.args.p c.args.block.now c.args.buf.now l _ c.min-taken.ensures _ c.min-len.ensures _ _ _ c.take_bytes-q.ensures.block_says _ c.tidied-state.ensures
