-- `how_many_power_inner::power` meets its contract. The loop's invariant: p is k to the power i.
use Rattle.words.proofs.Needs.{◌^◌, arith, ◌≡◌, sym, ap, ◌∙◌}
use native.Mathlib.Nat.{pow-zero}
use Rattle.how_many_power_inner.proofs.Powers.{power-step}
use Rattle.how_many_power_inner.proofs.power.Goals as goal

pub loop-init : goal.loop-init
loop-init c = sym (pow-zero c.args.k)

pub overflow_mul-p : goal.overflow_mul-p
overflow_mul-p c =
    let s = power-step c.args.k c.args.e 4294967296 c.loop.counter c.loop.p c.requires.k_nonzero c.requires.e_bound
    (omega arith) c.loop.invariant in omega (arith, s.1)

pub loop-preserved : goal.loop-preserved
loop-preserved c =
    let s = power-step c.args.k c.args.e 4294967296 c.loop.counter c.loop.p c.requires.k_nonzero c.requires.e_bound
    (omega arith) c.loop.invariant in s.0

pub returns : goal.returns
returns c = let e : c.loop.counter ≡ c.args.e = omega arith in c.loop.invariant ∙ ap (λ x. c.args.k ^ x) e
