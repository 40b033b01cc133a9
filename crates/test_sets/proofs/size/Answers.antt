-- `test_sets::size` is safe: the product is at most 768.
use Rattle.words.proofs.Needs.{arith}
use Rattle.std.proofs.Common.{mul-le-mul_left}
use Rattle.test_sets.proofs.size.Goals as goal

pub overflow_mul-result : goal.overflow_mul-result
overflow_mul-result c =
    omega (arith, mul-le-mul_left {m = c.args.taken} {n = 32} c.args.n (omega (arith, c.if-taken-gt32.false)), c.if-n-gt24.false)
