-- `shades_completable_inner::completable` meets its contract. The least letter that is left decides, or the pool does.
use Rattle.words.proofs.Needs.{arith}
use Rattle.ring_laws.proofs.Lyndon.{lyndon-pos}
use Rattle.shades_completable_inner.proofs.Testing.{test-none, test_low, test-high, test-letter, test-opened}
use Rattle.shades_completable_inner.proofs.completable.Goals as goal

pub returns-then-b-rem : goal.returns-then-b-rem
returns-then-b-rem c = test-none c.args.al.now c.args.rem.now c.requires _ c.least_left-b.ensures c.if-b-rem.true

pub bounds-al-0 : goal.bounds-al-0
bounds-al-0 c = lyndon-pos _ c.requires.lyndon-al

pub overflow_cast-x : goal.overflow_cast-x
overflow_cast-x c = omega (arith, c.type_inv.al 0)

pub returns-then-b-x : goal.returns-then-b-x
returns-then-b-x c =
    test_low c.args.al.now c.args.rem.now c.requires _ c.least_left-b.ensures
    (omega (arith, c.least_left-b.ensures.within, c.if-b-rem.false)) c.if-b-x.true

pub returns-then-x-b : goal.returns-then-x-b
returns-then-x-b c =
    test-high c.args.al.now c.args.rem.now c.requires _ c.least_left-b.ensures
    (omega (arith, c.least_left-b.ensures.within, c.if-b-rem.false)) c.if-x-b.true

pub returns-then-al-eq1 : goal.returns-then-al-eq1
returns-then-al-eq1 c =
    test-letter c.args.al.now c.args.rem.now c.requires _
    c.least_left-b.ensures
    (omega (arith, c.least_left-b.ensures.within, c.if-b-rem.false))
    (λ k. omega (arith, c.if-b-x.false)) (λ k. omega (arith, c.if-x-b.false)) c.if-al-eq1.true

pub decide-requires : goal.decide-requires
decide-requires c =
    test-opened c.args.al.now c.args.rem.now c.requires _
    c.least_left-b.ensures
    (omega (arith, c.least_left-b.ensures.within, c.if-b-rem.false))
    (λ k. omega (arith, c.if-b-x.false)) (λ k. omega (arith, c.if-x-b.false)) c.if-al-eq1.false
