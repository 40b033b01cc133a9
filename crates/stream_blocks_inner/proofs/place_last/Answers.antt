-- `stream_blocks_inner::place_last` meets its contract.
use Rattle.words.proofs.Needs.{arith}
use Rattle.text_spec.proofs.Put.{placed-length}
use Rattle.stream_spec.proofs.Taking.{end_none, end-some}
use Rattle.stream_blocks_inner.proofs.place_last.Goals as goal

pub returns-then-line-eq0 : goal.returns-then-line-eq0
returns-then-line-eq0 c = end_none _ _ _ c.if-line-eq0.true

pub place_text-requires : goal.place_text-requires
place_text-requires c = omega (arith, c.requires)

pub shape_of-buf : goal.shape_of-buf
shape_of-buf c = placed-length _ _ _ _ _ c.place_text.ensures.placed

pub returns : goal.returns
returns c =
    end-some _ _ _ _ (omega (arith, c.if-line-eq0.false)) c.requires _ _ c.place_text.ensures
