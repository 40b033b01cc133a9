-- `shades_lift_inner::lift` meets its contract. Where the least shade that is left is barred, each is.
use Rattle.words.proofs.Needs.{arith, refl}
use Rattle.shades_lift_inner.proofs.Barring.{lift-none, lift-asks, lift-found, lift-not}
use Rattle.shades_lift_inner.proofs.lift.Goals as goal

pub bounds-w-l : goal.bounds-w-l
bounds-w-l c = omega (arith, c.requires.inside, c.requires.size)

pub left_from-b-requires : goal.left_from-b-requires
left_from-b-requires c = (omega (arith, c.requires.low), omega (arith, c.requires.shades, c.requires.slots))

pub returns-then-b-k : goal.returns-then-b-k
returns-then-b-k c = record { lifted_to = lift-none _ _ _ _ _ c.requires c.left_from-b.ensures c.if-b-k.true; w_unchanged = refl; rem_unchanged = refl }

pub possible-requires : goal.possible-requires
possible-requires c = lift-asks _ _ _ _ _ c.requires c.left_from-b.ensures c.if-b-k.false

pub returns-then-possible : goal.returns-then-possible
returns-then-possible c =
    record {
      lifted_to = lift-found _ _ _ _ _ c.requires c.left_from-b.ensures c.if-b-k.false (c.possible.ensures.allows.yes c.if-possible.true);
      w_unchanged = c.possible.ensures.w_unchanged;
      rem_unchanged = c.possible.ensures.rem_unchanged;
    }

pub returns : goal.returns
returns c =
    record {
      lifted_to = lift-not _ _ _ _ _ c.requires c.left_from-b.ensures c.if-b-k.false (c.possible.ensures.allows.no c.if-possible.false);
      w_unchanged = c.possible.ensures.w_unchanged;
      rem_unchanged = c.possible.ensures.rem_unchanged;
    }
