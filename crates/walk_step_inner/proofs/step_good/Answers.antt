-- `walk_step_inner::step_good` meets its contract. What `advance` came to is the record of the next ring.
use Rattle.words.proofs.Needs.{rules}
use Rattle.words.proofs.Needs.{arith, ◌≡◌, refl, length, length-take}
use Rattle.walk_record_laws.proofs.Good.{good-ready, moved-is}
use Rattle.walk_step_inner.proofs.step_good.Goals as goal

pub slice_bounds-next-end : goal.slice_bounds-next-end
slice_bounds-next-end c = let l : length c.args.w.ring ≡ 64 = search rules in omega (arith, c.requires.0.0.0.0.0.0)

pub slice_bounds-advance-end : goal.slice_bounds-advance-end
slice_bounds-advance-end c = let l : length c.args.w.ring ≡ 64 = search rules in simp length-take (omega (arith, c.requires.0.0.0.0.0.0))

pub advance-reached-requires : goal.advance-reached-requires
advance-reached-requires c = good-ready c.args.w c.requires (search rules)

pub class_at-class-requires : goal.class_at-class-requires
class_at-class-requires c = (rw c.in-Some.is at c.advance-reached.ensures).3

pub counts_of-counts-requires : goal.counts_of-counts-requires
counts_of-counts-requires c = c.requires.0.0.0.0.0.0.1

pub returns-in_default : goal.returns-in_default
returns-in_default c = let d = rw c.in_default.is at c.advance-reached.ensures in record { good = c.requires; next = d.0; handed = refl; counted = d.1 }

pub returns : goal.returns
returns c =
    let l : length c.args.w.ring ≡ 64 = search rules in
    let f = rw c.in-Some.is at c.advance-reached.ensures in
    record {
      good = c.requires;
      to = _;
      next = f.0;
      handed = rw c.class_at-class.ensures (moved-is c.args.kind c.args.w _ _ c.requires l f.0 f.2 c.counts_of-counts.result c.counts_of-counts.ensures);
      counted = f.1;
    }
