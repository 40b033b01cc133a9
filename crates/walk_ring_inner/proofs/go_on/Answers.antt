-- `walk_ring_inner::go_on` meets its contract.
use Rattle.words.proofs.Needs.{refl}
use Rattle.walk_kind_laws.specs.Kinds.{kind_of}
use Rattle.walk_record_laws.proofs.Good.{went-period}
use Rattle.walk_ring_inner.proofs.go_on.Goals as goal

pub returns-in-Some : goal.returns-in-Some
unfolding kind_of
returns-in-Some c =
    let f = rw c.in-Some.is at c.advance-reached.ensures in
    (f.0, f.1, went-period c.args.k c.args.ring.now _ _ c.requires.pos f.0 f.2)

pub returns-in-None : goal.returns-in-None
unfolding kind_of
returns-in-None c =
    let f = rw c.in-None.is at c.advance-reached.ensures in
    (f.0, f.1, f.2 refl)
