-- `listing::empty_page` meets its contract.
use Rattle.listing.proofs.empty_page.Goals as goal

pub returns : goal.returns
returns c = λ i. record { length = 0; state = c.empty_state.ensures i }
