-- `set_line::parse_four` meets its contract: two numbers stand before the second space, two behind it.
use Rattle.words.proofs.Needs.{◌+◌, arith, ◌∙◌, sym}
use Rattle.set_line_spec.proofs.Four.{rest_all, four-at, four-join}
use Rattle.set_line.proofs.parse_four.Goals as goal

pub returns-then-s-at : goal.returns-then-s-at
returns-then-s-at c =
    λ n k d want short e. let f = four-at c.args.s.now c.second_space-at.result n k d want
    c.second_space-at.ensures e in omega (arith, f.0, c.if-s-at.true)

pub returns-in_err-n : goal.returns-in_err-n
returns-in_err-n c =
    rw c.from_residual.ensures (λ n k d want short e. let f = four-at c.args.s.now
    c.second_space-at.result n k d want c.second_space-at.ensures e
    in c.in_err-n.ensures n k short.n-short short.k-short f.1)

pub returns-in_err-d : goal.returns-in_err-d
returns-in_err-d c =
    rw c.from_residual-in_err-d.ensures (λ n k d want short e. let f = four-at c.args.s.now
    c.second_space-at.result n k d want c.second_space-at.ensures e
    in c.in_err-d.ensures d want short.d-short short.want-short (rest_all c.args.s.now (c.second_space-at.result + 1) ∙ f.2))

pub returns : goal.returns
returns c =
    let p = c.in_ok-n.ensures in
    let q = c.in_ok-d.ensures in (
      record { n-short = p.0; k-short = p.1; d-short = q.0; want-short = q.1 },
      four-join
          c.args.s.now c.second_space-at.result _ _ _ _
          c.second_space-at.ensures c.if-s-at.false p.2
          (sym (rest_all c.args.s.now (c.second_space-at.result + 1)) ∙ q.2),
    )
