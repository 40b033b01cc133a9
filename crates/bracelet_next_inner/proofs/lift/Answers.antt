-- `bracelet_next_inner::lift` meets its contract. The loop's invariant, `Lifting`: from place i on, raising is of no use.
use Rattle.words.proofs.Needs.{◌-◌, arith, ◌∙◌, sym, refl, length-set}
use Rattle.bracelet_next_inner.proofs.Lifting.{lifting-start, lifting-long, lifting-full, lifting-stuck, lifting-shade, lifting-below, lifting-settles, lifting-found, lifting-none}
use Rattle.bracelet_next_inner.proofs.lift.Goals as goal

pub loop-i-init : goal.loop-i-init
loop-i-init c = lifting-start c.args.k c.args.s.now c.requires

pub loop-i-preserved-then-here-top : goal.loop-i-preserved-then-here-top
loop-i-preserved-then-here-top c =
    lifting-full c.args.k c.args.s.now c.requires c.loop-i.s c.loop-i.i (c.loop-i.i - 1) (c.args.k - 1) c.loop-i.invariant (omega arith) refl c.if-here-top.true

pub is_bracelet-requires : goal.is_bracelet-requires
is_bracelet-requires c = simp length-set (omega (arith, c.loop-i.invariant.long, c.requires.pos))

pub overflow_add-here : goal.overflow_add-here
overflow_add-here c =
    omega (arith, c.requires.shades, lifting-shade c.args.k c.args.s.now c.requires c.loop-i.s c.loop-i.i (c.loop-i.i - 1) (c.args.k - 1) c.loop-i.invariant (omega arith) refl)

pub overflow_add-here-then-is_bracelet : goal.overflow_add-here-then-is_bracelet
overflow_add-here-then-is_bracelet c =
    omega (arith, c.requires.shades, lifting-shade c.args.k c.args.s.now c.requires c.loop-i.s c.loop-i.i (c.loop-i.i - 1) (c.args.k - 1) c.loop-i.invariant (omega arith) refl)

pub settle-requires : goal.settle-requires
settle-requires c =
    let is = sym c.is_bracelet.ensures ∙ c.if-is_bracelet.true in
    lifting-settles c.args.k c.args.s.now c.requires c.loop-i.s c.loop-i.i (c.loop-i.i - 1) (c.args.k - 1) c.loop-i.invariant (omega arith) refl is c.if-here-top.false _
    (omega (arith, lifting-below c.args.k c.args.s.now c.requires c.loop-i.s c.loop-i.i (c.loop-i.i - 1) (c.args.k - 1) c.loop-i.invariant (omega arith) refl is c.if-here-top.false))

pub shape_of-s-then-is_bracelet : goal.shape_of-s-then-is_bracelet
shape_of-s-then-is_bracelet c =
    lifting-long c.args.k c.args.s.now c.requires c.loop-i.s c.loop-i.i (c.loop-i.i - 1) (c.args.k - 1) c.loop-i.invariant (omega arith) refl _ _ c.settle.ensures

pub returns-then-is_bracelet : goal.returns-then-is_bracelet
returns-then-is_bracelet c =
    lifting-found c.args.k c.args.s.now c.requires c.loop-i.s c.loop-i.i (c.loop-i.i - 1) (c.args.k - 1) c.loop-i.invariant (omega arith) refl
    (sym c.is_bracelet.ensures ∙ c.if-is_bracelet.true)
    c.if-here-top.false _ (omega arith) (omega arith) _ c.settle.ensures

pub loop-i-preserved : goal.loop-i-preserved
loop-i-preserved c =
    lifting-stuck c.args.k c.args.s.now c.requires c.loop-i.s c.loop-i.i (c.loop-i.i - 1) (c.args.k - 1) c.loop-i.invariant (omega arith) refl
    (sym c.is_bracelet.ensures ∙ c.if-is_bracelet.false)

pub returns : goal.returns
returns c = lifting-none c.args.k c.args.s.now c.requires c.loop-i.s c.loop-i.i c.loop-i.invariant c.loop-i-test.false
