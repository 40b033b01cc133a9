-- `set_output::print_by` meets its contract.
use Rattle.words.proofs.Needs.{refl}
use Rattle.set_text_spec.specs.Prints.{small}
use Rattle.set_output.proofs.Output.{line-malformed, line-numbers}
use Rattle.set_output.proofs.print_by.Goals as goal

pub returns-then-buf-lt-ROOM : goal.returns-then-buf-lt-ROOM
returns-then-buf-lt-ROOM c = small c.if-buf-lt-ROOM.true refl refl

pub returns-in-None : goal.returns-in-None
returns-in-None c =
    line-malformed c.args.rule c.args.line.now c.args.buf.now _ _ c.if-buf-lt-ROOM.false
    c.in-None.ensures
    c.print_refused.ensures

pub returns-in-Some : goal.returns-in-Some
returns-in-Some c =
    line-numbers c.args.rule c.args.line.now c.args.buf.now _ _ c.in-Some.n c.in-Some.k c.in-Some.d c.in-Some.wanted
    c.if-buf-lt-ROOM.false c.in-Some.ensures c.print_numbers.ensures
