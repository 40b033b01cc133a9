-- The output in pages, each in a lent buffer. A line is begun only where there is room for the longest.
--     row_room            no line is longer: 64 sectors, two numbers of 20 digits, two spaces, a newline; nor are the first two lines together
--     Goes               the lines that follow a ring, in a buffer of `room` bytes from place `at` on
--     FirstPage s room   the first page of the output for the input s, in a buffer of `room` bytes, and the state behind it
--     Next s room        the page that follows from the state s, and the state behind it
--     Paged P b r b'     the page r stands in the buffer, b before and b' after, and P says its text and the state behind it
--     Pages s text       pages one after another from the state s, up to one of no bytes, and their text
-- That these determine the page, the state and the whole buffer: proofs/Unique. That all pages together are the output: listing_laws, Whole.pages-whole.
use Rattle.std.specs.Prelude.{ℕ, suc, ◌+◌, ◌<◌, ◌≤◌, ◌≡◌, List, [], ◌++◌, length, take, drop, Ok, Err}
use Rattle.std.proofs.Math.Option.{none, some}
use Rattle.rings.specs.Necklace.{necklace}
use Rattle.rings.specs.Steps.{next_of, moves}
use Rattle.refusal.specs.declared.Refusal.{Refusal}
use Rattle.refusal.specs.Numbers.{number_of}
use Rattle.text_spec.specs.Text.{last_line, refused_line}
use Rattle.plan_spec.specs.Plan.{PlanSays}
use Rattle.listing_spec.specs.declared.State.{State}
use Rattle.listing_spec.specs.declared.Page.{Page}
use Rattle.listing_spec.specs.Listing.{row, opening, zero_ring}
use Rattle.listing_spec.specs.Prints.{most_printed}
use Rattle.listing_spec.specs.State.{state_ring, GoodState, empty_state, start_state, Rest, over, on, state_behind}

abbrev pub row_room : ℕ
row_room = 107

-- from the ring v on, with so many rings and moves behind: a line for each ring that follows, and last their number, while there is room for a line
pub data Goes (k room : ℕ) : (v : List ℕ) (rings sum at : ℕ) (text : List ℕ) → Rest → Type 0 where
  full : {v : List ℕ} {rings sum at : ℕ} → room < at + row_room → Goes k room v rings sum at [] (on v rings sum)
  total : {v : List ℕ} {rings sum at : ℕ} → at + row_room ≤ room → next_of necklace k v ≡ none → Goes k room v rings sum at (last_line rings sum) over
  line : {v x : List ℕ} {rings sum at : ℕ} {text : List ℕ} {rest : Rest} → at + row_room ≤ room → next_of necklace k v ≡ some x →
      Goes k room x (suc rings) (sum + moves k v (some x)) (at + length (row k v x)) text rest → Goes k room v rings sum at (row k v x ++ text) rest

-- the first page
pub data FirstPage (s : List ℕ) (room : ℕ) (text : List ℕ) (state : State) : Type 0 where
  small : room < row_room → text ≡ [] → state ≡ empty_state → FirstPage s room text state
  refused : row_room ≤ room → (r : Refusal) → PlanSays most_printed s (Err r) → text ≡ refused_line (number_of r) → state ≡ empty_state → FirstPage s room text state
  listed : row_room ≤ room → (k n : ℕ) (t : List ℕ) (rest : Rest) → PlanSays most_printed s (Ok (k, n)) → Goes k room (zero_ring n) 1 0 (length (opening k n)) t rest →
      text ≡ opening k n ++ t → state ≡ state_behind (start_state k n) rest → FirstPage s room text state

-- any other page
pub data Next (s : State) (room : ℕ) (text : List ℕ) (state : State) : Type 0 where
  bad : (GoodState s → ⊥) → text ≡ [] → state ≡ empty_state → Next s room text state
  good : GoodState s → (rest : Rest) → Goes s.k room (state_ring s) s.rings s.moves 0 text rest → state ≡ state_behind s rest → Next s room text state

-- the text stands at the beginning of the buffer, and the rest of the buffer is as it was
pub record Paged (P : List ℕ → State → Type 0) (b : List ℕ) (r : Page) (b' : List ℕ) : Type 0 where
  pub text : List ℕ
  pub says : P text r.state
  pub fits : length text ≤ length b
  pub long : r.length ≡ length text
  pub bytes : b' ≡ text ++ drop (length text) b

-- pages one after another, each in a buffer with room for a line, up to one of no bytes; the text is what stands in the buffers
pub data Pages : State → List ℕ → Type 0 where
  last : {s : State} {b b' : List ℕ} {r : Page} → row_room ≤ length b → Paged (Next s (length b)) b r b' → r.length ≡ 0 → Pages s []
  page : {s : State} {b b' t : List ℕ} {r : Page} →
      row_room ≤ length b → Paged (Next s (length b)) b r b' → 0 < r.length → Pages r.state t → Pages s (take r.length b' ++ t)
