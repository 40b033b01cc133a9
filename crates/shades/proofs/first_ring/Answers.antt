-- `shades::first_ring` meets its contract. Behind the checks, the letters of the counts in increasing order are the first ring.
use Rattle.words.proofs.Needs.{rules}
use Rattle.words.proofs.Needs.{refl, length}
use Rattle.shades.proofs.Asking.{first-asks, first_found}
use Rattle.shades.proofs.first_ring.Goals as goal

pub fill-requires : goal.fill-requires
fill-requires c =
    first-asks (length c.args.out.now) c.args.k c.args.counts.now c.in_ok-check_first.ensures c.args.out.now refl

pub returns : goal.returns
returns c =
    let p = c.in_ok-check_first.ensures
    in (
      p,
      first_found (length c.args.out.now) c.args.k c.args.counts.now p _ _ (search rules) c.fill.ensures.0
          c.fill.ensures.1,
    )
