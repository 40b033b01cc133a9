-- `desk_counts_inner::counts_of` meets its contract.
use Rattle.words.proofs.Needs.{arith, refl, ◌∙◌, length-set, length-drop}
use Rattle.desk_words_inner.proofs.Shapes.{rest_all}
use Rattle.desk_counts_inner.proofs.Counting.{begun-none, begun_more, begun-end}
use Rattle.desk_counts_inner.proofs.counts_of.Goals as goal

pub loop-x-init : goal.loop-x-init
loop-x-init c = (begun-none c.args.t.now c.args.out.now, refl)

pub slice_bounds-head_at-count : goal.slice_bounds-head_at-count
slice_bounds-head_at-count c = omega (arith, c.loop-x.invariant.0.within)

pub slice_bounds-head_at-start : goal.slice_bounds-head_at-start
slice_bounds-head_at-start c = omega (arith, c.loop-x.invariant.0.within)

pub slice_bounds-head_at-end : goal.slice_bounds-head_at-end
slice_bounds-head_at-end c = omega (arith, c.loop-x.invariant.0.within)

pub slice_bounds-last_count-count : goal.slice_bounds-last_count-count
slice_bounds-last_count-count c = omega (arith, c.loop-x.invariant.0.within)

pub slice_bounds-last_count-start : goal.slice_bounds-last_count-start
slice_bounds-last_count-start c = omega (arith, c.loop-x.invariant.0.within)

pub slice_bounds-last_count-end : goal.slice_bounds-last_count-end
slice_bounds-last_count-end c = omega (arith, c.loop-x.invariant.0.within)

pub last_count-requires : goal.last_count-requires
last_count-requires c =
    omega (arith, c.loop-x.invariant.0.few, c.loop-x.invariant.0.within, c.loop-x.invariant.1, c.requires.t_in_bounds)

pub returns : goal.returns
returns c =
    let h = rw (rest_all c.args.t.now c.loop-x.at) at c.in_default.ensures in
    let l = rw (rest_all c.args.t.now c.loop-x.at) at c.last_count.ensures in
    begun-end c.args.t.now c.loop-x.out c.loop-x.m c.loop-x.at c.loop-x.invariant.0
    (omega (arith, c.loop-x.invariant.0.few, c.loop-x.invariant.0.within, c.loop-x.invariant.1, c.requires.t_in_bounds)) h c.last_count.result c.last_count.new.out l

pub offset_bounds-out-m : goal.offset_bounds-out-m
offset_bounds-out-m c =
    omega (arith, c.loop-x.invariant.0.few, c.loop-x.invariant.0.within, c.requires.t_len_bound)

pub bounds-out-m : goal.bounds-out-m
bounds-out-m c =
    omega (arith, c.loop-x.invariant.0.few, c.loop-x.invariant.0.within, c.loop-x.invariant.1, c.requires.t_in_bounds)

pub overflow_add-m : goal.overflow_add-m
overflow_add-m c =
    omega (arith, c.loop-x.invariant.0.few, c.loop-x.invariant.0.within, c.requires.t_len_bound)

pub overflow_add-at : goal.overflow_add-at
overflow_add-at c =
    let h = rw (rest_all c.args.t.now c.loop-x.at) at c.in-Some.ensures in
    omega (arith, h.1, c.loop-x.invariant.0.within, c.requires.t_len_bound, length-drop c.loop-x.at c.args.t.now)

pub loop-x-smaller : goal.loop-x-smaller
loop-x-smaller c =
    let h = rw (rest_all c.args.t.now c.loop-x.at) at c.in-Some.ensures in
    omega (arith, h.1, h.3, c.loop-x.invariant.0.within, length-drop c.loop-x.at c.args.t.now)

pub loop-x-preserved : goal.loop-x-preserved
loop-x-preserved c =
    let h = rw (rest_all c.args.t.now c.loop-x.at) at c.in-Some.ensures in (
      begun_more c.args.t.now c.loop-x.out c.loop-x.m c.loop-x.at c.loop-x.invariant.0
          (omega (arith, c.loop-x.invariant.0.few, c.loop-x.invariant.0.within, c.loop-x.invariant.1, c.requires.t_in_bounds)) _ _ h,
      length-set c.loop-x.out c.loop-x.m _ ∙ c.loop-x.invariant.1,
    )
