-- `report::finish` meets its contract.
use Rattle.words.proofs.Needs.{rules}
use Rattle.words.proofs.Needs.{◌≡◌, length}
use Rattle.stream_kind_inner.specs.Says.{Said}
use Rattle.report.proofs.Making.{end-says}
use Rattle.report.proofs.finish.Goals as goal

pub returns : goal.returns
unfolding Said
returns c =
    let l : length c.args.p.line ≡ 9 = search rules in
    end-says c.args.p c.args.buf.now l c.if-buf-lt-LINE_ROOM.false _ c.min-len.ensures _ _ c.place_last.ensures
