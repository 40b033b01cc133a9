-- `walk_reading_inner::step_in` meets its contract.
use Rattle.words.proofs.Needs.{length}
use Rattle.walk_kind_laws.specs.Kinds.{kind_of}
use Rattle.word_copy_laws.proofs.Copy.{copied}
use Rattle.walk_reading_inner.proofs.Passing.{passed-ready, step-moved, step-done}
use Rattle.walk_reading_inner.proofs.step_in.Goals as goal

pub advance-reached-requires : goal.advance-reached-requires
advance-reached-requires c =
    let e = copied c.args.reading.now c.args.ring.now _ c.copy.ensures.copied c.requires.ring_len in
    rw e (passed-ready c.args.reading.now c.args.k (length c.args.out.now) c.requires.passed)

pub returns-in_default : goal.returns-in_default
returns-in_default c =
    let e = copied c.args.reading.now c.args.ring.now _ c.copy.ensures.copied c.requires.ring_len in
    let d = rw c.in_default.is at c.advance-reached.ensures in
    step-done c.args.reading.now c.args.k c.args.out.now _ c.requires.passed e (kind_of c.args.kind) c.advance-reached.result.moves (d.0, d.1)

pub returns : goal.returns
returns c =
    let e = copied c.args.reading.now c.args.ring.now _ c.copy.ensures.copied c.requires.ring_len in
    let f = rw c.in-Some.is at c.advance-reached.ensures in
    step-moved c.args.reading.now c.args.k c.args.out.now _ c.requires.passed e (kind_of c.args.kind) _ _ c.advance-reached.result.moves f.0 f.1 c.copy-2.ensures.copied
