-- `density_ring_inner::write_shades` meets its contract. The loop's invariant: the first i shades are written.
use Rattle.words.proofs.Needs.{arith, ◌∙◌, sym, map, length-map}
use Rattle.word_copy_laws.proofs.Written.{written_start, written-more, written-end}
use Rattle.density_spec.specs.Cuts.{shade_of}
use Rattle.density_spec.proofs.Places.{shade-at}
use Rattle.density_ring_inner.proofs.write_shades.Goals as goal

pub loop-i-init : goal.loop-i-init
loop-i-init c =
    let f = shade_of c.args.card c.args.k in
    written_start (map f c.args.values.now) c.args.out.now (c.requires.1 ∙ sym (length-map c.args.values.now f))

pub bounds-out-i : goal.bounds-out-i
bounds-out-i c =
    omega (arith, c.loop-i.invariant.long, length-map c.args.values.now (shade_of c.args.card c.args.k))

pub loop-i-preserved : goal.loop-i-preserved
loop-i-preserved c =
    let f = shade_of c.args.card c.args.k in
    written-more (map f c.args.values.now) c.loop-i.out c.loop-i.i _ c.loop-i.invariant (omega (arith, length-map c.args.values.now f))
    (c.cuts_not_above.ensures ∙ sym (shade-at c.args.card c.args.k c.args.values.now c.loop-i.i (omega arith)))

pub returns : goal.returns
returns c =
    let f = shade_of c.args.card c.args.k in
    written-end (map f c.args.values.now) _ _ c.loop-i.invariant (omega (arith, length-map c.args.values.now f))
