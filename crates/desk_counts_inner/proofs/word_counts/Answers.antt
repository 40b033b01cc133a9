-- `desk_counts_inner::word_counts` meets its contract.
use Rattle.words.proofs.Needs.{arith}
use Rattle.desk_counts_inner.proofs.Counting.{word-listed, word-bad}
use Rattle.desk_counts_inner.proofs.word_counts.Goals as goal

pub returns-then-piece_end-t : goal.returns-then-piece_end-t
returns-then-piece_end-t c =
    word-bad c.args.t.now c.piece_end.result c.piece_end.ensures c.if-piece_end-t.true

pub returns : goal.returns
returns c =
    word-listed c.args.t.now c.piece_end.result c.piece_end.ensures (omega (arith, c.if-piece_end-t.false)) c.counts_of.result c.counts_of.new.out c.counts_of.ensures
