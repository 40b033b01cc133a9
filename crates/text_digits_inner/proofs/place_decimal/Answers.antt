-- `text_digits_inner::place_decimal` meets its contract: a number of one or two digits is written straight, and what `io::decimal` writes is the decimal text.
use Rattle.words.proofs.Needs.{◌∙◌, length-set}
use Rattle.text_spec.proofs.Digits.{fewest-decimal}
use Rattle.text_spec.proofs.Put.{placed-short, placed-two, room-short, room-two}
use Rattle.text_digits_inner.proofs.place_decimal.Goals as goal

pub bounds-buf-at : goal.bounds-buf-at
bounds-buf-at c = room-short c.args.buf.now c.args.at c.args.x c.requires

pub returns-then-x-lt10 : goal.returns-then-x-lt10
returns-then-x-lt10 c = placed-short c.args.buf.now c.args.at c.args.x c.if-x-lt10.true

pub bounds-buf-at-then-x-lt100 : goal.bounds-buf-at-then-x-lt100
bounds-buf-at-then-x-lt100 c = room-short c.args.buf.now c.args.at c.args.x c.requires

pub bounds-buf-at-then-x-lt100-2 : goal.bounds-buf-at-then-x-lt100-2
bounds-buf-at-then-x-lt100-2 c =
    simp length-set (room-two c.args.buf.now c.args.at c.args.x
    c.if-x-lt10.false c.if-x-lt100.true c.requires)

pub returns-then-x-lt100 : goal.returns-then-x-lt100
returns-then-x-lt100 c = placed-two c.args.buf.now c.args.at c.args.x c.if-x-lt10.false c.if-x-lt100.true

pub place_text-requires : goal.place_text-requires
place_text-requires c =
    let e = c.decimal-m.ensures.digits ∙ fewest-decimal c.decimal-m.result
    c.args.x c.decimal-m.ensures.len in
    rw e c.requires

pub returns : goal.returns
returns c =
    let e = c.decimal-m.ensures.digits ∙ fewest-decimal
    c.decimal-m.result c.args.x
    c.decimal-m.ensures.len in rw e at c.place_text.ensures
