-- `desk_words_inner::head_at` meets its contract.
use Rattle.words.proofs.Needs.{arith, length-take}
use Rattle.desk_words_inner.proofs.Heads.{head-alone, head-none, head-number}
use Rattle.desk_words_inner.proofs.head_at.Goals as goal

pub returns-then-t-e : goal.returns-then-t-e
returns-then-t-e c = head-alone _ c.args.t.now c.piece_end-e.result c.piece_end-e.ensures c.if-t-e.true

pub slice_bounds-parse_number-end : goal.slice_bounds-parse_number-end
slice_bounds-parse_number-end c = simp length-take (omega (arith, c.piece_end-e.ensures.within))

pub returns-in_err-k : goal.returns-in_err-k
returns-in_err-k c =
    rw c.from_residual.ensures (head-none _ c.args.t.now c.piece_end-e.result c.piece_end-e.ensures c.in_err-k.ensures)

pub returns : goal.returns
returns c =
    head-number _ c.args.t.now c.piece_end-e.result c.piece_end-e.ensures _ c.in_ok-k.ensures (omega (arith, c.if-t-e.false))
