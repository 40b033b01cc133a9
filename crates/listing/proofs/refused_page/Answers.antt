-- `listing::refused_page` meets its contract.
use Rattle.words.proofs.Needs.{rules}
use Rattle.words.proofs.Needs.{arith}
use Rattle.listing.proofs.Making.{refused-room, refused_says}
use Rattle.listing.proofs.refused_page.Goals as goal

pub place_refused-end-requires : goal.place_refused-end-requires
place_refused-end-requires c = refused-room _ _ _ (omega arith) (search rules) c.requires

pub returns : goal.returns
returns c =
    refused_says c.args.r c.number-number.result c.number-number.ensures
    c.args.buf.now _ _ c.place_refused-end.ensures c.empty_state.ensures
