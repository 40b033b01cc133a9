-- What the parts of the program promise. Whether another page follows: `listing_steps_inner`.
--     FirstPageSays         the first page of the output for any input of which that was read to `line`; none, and the buffer as it was, where a read failed
--     Turning r m           the page r stands in a buffer of m bytes, and behind it the listing stands or nothing follows
use Rattle.std.specs.Prelude.{ℕ, ◌≤◌, ◌≡◌, ◌⊎◌, List, length, take}
use Rattle.program_reading_inner.specs.declared.Most.{Most}
use Rattle.program_reading_inner.specs.declared.Most.TheVariants as M
use Rattle.program_reading_inner.specs.Says.{BeginsWith}
use Rattle.listing_spec.specs.declared.Page.{Page}
use Rattle.listing_spec.specs.State.{empty_state}
use Rattle.listing_spec.specs.Paging.{FirstPage, Paged}
use Rattle.listing_laws.specs.Standing.{Stands}

-- a line has at most 8 bytes, so 9 tell
abbrev pub list_line_bytes : ℕ
list_line_bytes = 9

abbrev pub FirstPageSays : Most → List ℕ → List ℕ → Page → List ℕ → Type 0
FirstPageSays M.Full line b r b' = (s : List ℕ) → BeginsWith s line → Paged (FirstPage s (length b)) b r b'
FirstPageSays (M.Ended got) line b r b' = Paged (FirstPage (take got line) (length b)) b r b'
FirstPageSays M.Failed line b r b' = (r.length ≡ 0) × (r.state ≡ empty_state) × (b' ≡ b)

pub record Turning (r : Page) (m : ℕ) : Type 0 where
  pub inside : r.length ≤ m
  pub stands : Stands r.state ⊎ (r.state ≡ empty_state)
