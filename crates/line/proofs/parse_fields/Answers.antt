-- `line::parse_fields` meets its contract: k stands before the first space, n behind it.
use Rattle.words.proofs.Needs.{◌+◌, ◌-◌, arith, ◌≡◌, length, take, drop, length-drop, take_all}
use Rattle.line_spec.proofs.Lines.{two_fields, no_fields}
use Rattle.line.proofs.parse_fields.Goals as goal

pub returns-then-s-at : goal.returns-then-s-at
returns-then-s-at c = no_fields _ _ c.piece_end-at.ensures c.if-s-at.true

pub returns : goal.returns
returns c =
    let from = c.piece_end-at.result + 1 in
    let rest : take (length c.args.s.now - from) (drop from c.args.s.now) ≡ drop from c.args.s.now = take_all (length c.args.s.now - from) (drop from c.args.s.now) (simp length-drop (omega arith)) in
    two_fields c.args.s.now c.piece_end-at.result c.piece_end-at.ensures c.if-s-at.false c.parse_two.result (rw rest at c.parse_two.ensures)
