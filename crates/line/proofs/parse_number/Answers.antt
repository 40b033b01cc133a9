-- `line::parse_number` meets its contract. The loop's invariant: the characters passed are digits, and x is what they spell.
use Rattle.words.proofs.Needs.{arith}
use Rattle.line.proofs.Spelling.{spelling-on, spelling-small, spelling-end, too_short, too_long, zero-first, no_digit, zero-text}
use Rattle.line.proofs.parse_number.Goals as goal

pub returns-then-m-lt1 : goal.returns-then-m-lt1
returns-then-m-lt1 c = λ x h e. too_short c.args.s.now x e c.if-m-lt1.true

pub returns-then-m-gt-DIGITS : goal.returns-then-m-gt-DIGITS
returns-then-m-gt-DIGITS c = λ x h e. too_long c.args.s.now x e h c.if-m-gt-DIGITS.true

pub returns-then-m-eq1 : goal.returns-then-m-eq1
returns-then-m-eq1 c = (omega arith, zero-text c.args.s.now c.if-m-eq1.true c.if-s-eq48.true)

pub returns-else-m-eq1 : goal.returns-else-m-eq1
returns-else-m-eq1 c = λ x h e. zero-first c.args.s.now x e c.if-s-eq48.true c.if-m-eq1.false

pub returns-then-not-is_ascii_digit : goal.returns-then-not-is_ascii_digit
returns-then-not-is_ascii_digit c =
    λ x h e. no_digit c.args.s.now x e c.loop-a.a-index c.loop-a-test.true (λ lo hi. omega (arith, c.if-not-is_ascii_digit.ensures.cases))

pub loop-a-preserved : goal.loop-a-preserved
loop-a-preserved c =
    let f = c.if-not-is_ascii_digit.ensures.cases in
    rw c.from.ensures (spelling-on c.args.s.now c.loop-a.x c.loop-a.a-index c.loop-a.invariant c.loop-a-test.true f.0 f.1)

pub returns : goal.returns
returns c = (
  spelling-small c.args.s.now c.loop-a.x c.loop-a.a-index c.loop-a.invariant (omega arith),
  spelling-end c.args.s.now c.loop-a.x c.loop-a.a-index c.loop-a.invariant (omega arith) (omega arith) c.if-s-eq48.false,
)
