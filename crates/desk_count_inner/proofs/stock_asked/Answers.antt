-- `desk_count_inner::stock_asked` meets its contract.
use Rattle.words.proofs.Needs.{arith, ap}
use Rattle.std.specs.Prelude.{Ok}
use Rattle.desk_spec.specs.Texts.{stock_text}
use Rattle.desk_texts_inner.proofs.Putting.{put-text, put-good, put-bad}
use Rattle.desk_count_inner.proofs.Reading.{byte, no_byte, great}
use Rattle.desk_count_inner.proofs.stock_asked.Goals as goal

pub returns-in_default : goal.returns-in_default
returns-in_default c = put-bad _ _ (no_byte c.args.t.now c.in_default.ensures) _

pub returns-then-b-gt255 : goal.returns-then-b-gt255
returns-then-b-gt255 c = put-bad _ _ (great c.args.t.now c.in-Some.b c.in-Some.ensures c.if-b-gt255.true) _

pub returns : goal.returns
returns c =
    put-good _ _ _ _ (Ok _) _ c.in-Some.b (byte c.args.t.now c.in-Some.b c.in-Some.ensures (omega (arith, c.if-b-gt255.false)))
    (put-text _ _ _ _ _ _ (ap stock_text c.stock_home-h.ensures) c.place_stock.ensures)
