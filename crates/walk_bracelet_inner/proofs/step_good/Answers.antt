-- `walk_bracelet_inner::step_good` meets its contract. What `next` came to is the next bracelet, and a start from it hands out its record.
use Rattle.words.proofs.Needs.{rules}
use Rattle.words.proofs.Needs.{arith, ◌≡◌, sym, some, length, length-take, length-append, length-drop}
use Rattle.rings.specs.{Alike.bracelet, Steps.next_of}
use Rattle.walk_spec.specs.Record.{ring_of}
use Rattle.walk_record_laws.proofs.Good.{good-ready, good-long}
use Rattle.walk_bracelet_inner.proofs.Arriving.{good-reading, arrived-long, arrived-ring, arrived-passed, arrived, ended}
use Rattle.walk_bracelet_inner.proofs.step_good.Goals as goal

pub slice_bounds-ahead-end : goal.slice_bounds-ahead-end
slice_bounds-ahead-end c =
    let l : length c.args.w.ring ≡ 64 = search rules in
    omega (arith, l, (good-ready c.args.w c.requires l).fits, good-long c.args.w c.requires l)

pub slice_bounds-next-end : goal.slice_bounds-next-end
slice_bounds-next-end c =
    let l : length c.args.w.ring ≡ 64 = search rules in
    simp length-take (omega (arith, l, (good-ready c.args.w c.requires l).fits, good-long c.args.w c.requires l))

pub next-requires : goal.next-requires
next-requires c =
    let l : length c.args.w.ring ≡ 64 = search rules in
    good-reading c.args.w c.requires l

pub slice_bounds-ahead-end-then-next : goal.slice_bounds-ahead-end-then-next
slice_bounds-ahead-end-then-next c =
    let l : length c.args.w.ring ≡ 64 = search rules in
    let e : next_of bracelet c.args.w.k (ring_of c.args.w) ≡ some c.next.new.s = rw c.if-next.true at c.next.ensures in
    simp (length-append, length-drop) (omega (arith, l, arrived-long c.args.w c.requires l c.next.new.s e))

pub slice_bounds-start_good-end : goal.slice_bounds-start_good-end
slice_bounds-start_good-end c =
    let l : length c.args.w.ring ≡ 64 = search rules in
    let e : next_of bracelet c.args.w.k (ring_of c.args.w) ≡ some c.next.new.s = rw c.if-next.true at c.next.ensures in
    rw (arrived-ring c.args.w c.requires l c.next.new.s e) (sym (arrived-long c.args.w c.requires l c.next.new.s e))

pub start_good-started-requires : goal.start_good-started-requires
start_good-started-requires c =
    let l : length c.args.w.ring ≡ 64 = search rules in
    let e : next_of bracelet c.args.w.k (ring_of c.args.w) ≡ some c.next.new.s = rw c.if-next.true at c.next.ensures in
    rw (arrived-ring c.args.w c.requires l c.next.new.s e) (arrived-passed c.args.w c.requires l c.next.new.s e)

pub returns-then-next : goal.returns-then-next
returns-then-next c =
    let l : length c.args.w.ring ≡ 64 = search rules in
    let e : next_of bracelet c.args.w.k (ring_of c.args.w) ≡ some c.next.new.s = rw c.if-next.true at c.next.ensures in
    arrived c.args.w c.requires l c.next.new.s e c.start_good-started.result.walk c.start_good-started.result.answer
    (rw (arrived-ring c.args.w c.requires l c.next.new.s e) at c.start_good-started.ensures)

pub returns : goal.returns
returns c =
    ended c.args.w c.requires (rw c.if-next.false at c.next.ensures)
