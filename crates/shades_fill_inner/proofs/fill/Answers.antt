-- `shades_fill_inner::fill` meets its contract. The loop: the letters of the first b counts are written, l in all.
use Rattle.words.proofs.Needs.{rules}
use Rattle.words.proofs.Needs.{arith}
use Rattle.shades_fill_inner.proofs.Filling.{fill_start, fill-room, fill_more, fill_end}
use Rattle.shades_fill_inner.proofs.fill.Goals as goal

pub loop-b-init : goal.loop-b-init
loop-b-init c = fill_start _ _

pub overflow_add-e : goal.overflow_add-e
overflow_add-e c =
    omega (
      arith,
      fill-room c.args.w.now c.args.counts.now c.loop-b.w c.loop-b.l c.loop-b.b c.loop-b.invariant (omega arith) c.requires.room,
      c.loop-b.invariant.long,
    )

pub overflow_cast-b : goal.overflow_cast-b
overflow_cast-b c =
    omega (
      arith,
      fill-room c.args.w.now c.args.counts.now c.loop-b.w c.loop-b.l c.loop-b.b c.loop-b.invariant (omega arith) c.requires.room,
      c.loop-b.invariant.long,
      c.requires.size,
      c.requires.shades,
    )

pub put-requires : goal.put-requires
put-requires c = (
  omega arith,
  fill-room c.args.w.now c.args.counts.now c.loop-b.w c.loop-b.l c.loop-b.b c.loop-b.invariant (omega arith) c.requires.room,
)

pub loop-b-preserved : goal.loop-b-preserved
loop-b-preserved c =
    fill_more c.args.w.now c.args.counts.now c.loop-b.w c.loop-b.l c.loop-b.b c.loop-b.invariant (omega arith) _
    (search rules) c.put.ensures

pub returns : goal.returns
returns c = fill_end _ _ _ _ _ c.loop-b.invariant (omega arith)
