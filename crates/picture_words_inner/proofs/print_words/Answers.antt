-- `picture_words_inner::print_words` meets its contract.
use Rattle.words.proofs.Needs.{◌+◌, arith, sym, ◌∙◌}
use Rattle.picture_words_inner.proofs.Words.{print-bad, put-managed, put-levels, no-levels, this-text, other_text}
use Rattle.picture_words_inner.proofs.print_words.Goals as goal

pub returns-then-t-e : goal.returns-then-t-e
returns-then-t-e c = put-managed c.args.k c.args.t.now _ c.piece_end-e.ensures c.if-t-e.true _ _ _ c.print_spelt.ensures

pub returns-then-ne : goal.returns-then-ne
returns-then-ne c =
    print-bad _ _ _ _ _ (no-levels c.args.k c.args.t.now c.piece_end-e.result c.piece_end-e.ensures (omega (arith, c.if-t-e.false))
    (λ l. other_text c.args.t.now (c.piece_end-e.result + 1) _ c.as_slice.ensures c.if-ne.ensures l)) c.place_malformed.ensures

pub returns : goal.returns
returns c =
    put-levels c.args.k c.args.t.now c.piece_end-e.result c.piece_end-e.ensures (omega (arith, c.if-t-e.false))
    (this-text c.args.t.now (c.piece_end-e.result + 1) _ c.as_slice.ensures c.if-ne.ensures) _ _ _ c.print_spelt-2.ensures
