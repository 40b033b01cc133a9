-- `walk_reading_inner::bracelet_in` meets its contract.
use Rattle.words.proofs.Needs.{length}
use Rattle.word_copy_laws.proofs.Copy.{copied}
use Rattle.walk_reading_inner.proofs.Passing.{passed-bytes, bracelet-moved, bracelet-done}
use Rattle.walk_reading_inner.proofs.bracelet_in.Goals as goal

pub next-requires : goal.next-requires
next-requires c =
    let e = copied c.args.reading.now c.args.ring.now _ c.copy.ensures.copied c.requires.ring_len in
    rw e (passed-bytes c.args.reading.now c.args.k (length c.args.out.now) c.requires.passed)

pub returns-then-next : goal.returns-then-next
returns-then-next c =
    let e = copied c.args.reading.now c.args.ring.now _
    c.copy.ensures.copied c.requires.ring_len in
    bracelet-moved c.args.reading.now c.args.k c.args.out.now _ c.requires.passed e _ _
    (rw c.if-next.true at c.next.ensures)
    c.copy-then-next.ensures.copied

pub returns : goal.returns
returns c =
    let e = copied c.args.reading.now c.args.ring.now _ c.copy.ensures.copied c.requires.ring_len in
    bracelet-done c.args.reading.now c.args.k c.args.out.now _ c.requires.passed e (rw c.if-next.false at c.next.ensures)
