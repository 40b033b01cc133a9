-- What the parts of the listing's calls promise; the calls' own promises are `PlanSays` of `plan` and `Paged`, `First` and `Next` of `listing_spec`.
--     empty_page        a page of no bytes, behind which nothing follows
--     RefusedPageSays      the line of a refusal alone
use Rattle.std.specs.Prelude.{ℕ, ◌≡◌, List}
use Rattle.refusal.specs.declared.Refusal.{Refusal}
use Rattle.refusal.specs.Numbers.{number_of}
use Rattle.text_spec.specs.Text.{refused_line}
use Rattle.text_spec.specs.Put.{Placed}
use Rattle.listing_spec.specs.declared.Page.{Page}
use Rattle.listing_spec.specs.State.{empty_state}

abbrev pub empty_page : Page
empty_page = record { length = 0; state = empty_state }

pub record RefusedPageSays (r : Refusal) (b : List ℕ) (p : Page) (b' : List ℕ) : Type 0 where
  pub placed : Placed b 0 (refused_line (number_of r)) p.length b'
  pub state : p.state ≡ empty_state
