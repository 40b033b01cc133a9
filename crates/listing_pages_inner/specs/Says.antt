-- What placing a listing's lines promises, in the words of `listing_spec`, specs/Paging. b is the buffer before, b' after, and `from` the place in it where the text begins.
--     FillSays     the lines of the rings that follow, as long as there is room for a line, and the last line behind the last ring's
--     OpenSays     the first two lines, and those that follow
use Rattle.std.specs.Prelude.{ℕ, ◌≤◌, ◌≡◌, List, ◌++◌, length}
use Rattle.text_spec.specs.Put.{Placed}
use Rattle.listing_spec.specs.declared.State.{State}
use Rattle.listing_spec.specs.declared.Page.{Page}
use Rattle.listing_spec.specs.Listing.{opening, zero_ring}
use Rattle.listing_spec.specs.State.{state_ring, start_state, Rest, state_behind}
use Rattle.listing_spec.specs.Paging.{Goes}

pub record FillSays (s : State) (b : List ℕ) (from : ℕ) (r : Page) (b' : List ℕ) : Type 0 where
  pub text : List ℕ
  pub rest : Rest
  pub goes : Goes s.k (length b) (state_ring s) s.rings s.moves from text rest
  pub placed : Placed b from text r.length b'
  pub inside : r.length ≤ length b
  pub state : r.state ≡ state_behind s rest

pub record OpenSays (k n : ℕ) (b : List ℕ) (r : Page) (b' : List ℕ) : Type 0 where
  pub text : List ℕ
  pub rest : Rest
  pub goes : Goes k (length b) (zero_ring n) 1 0 (length (opening k n)) text rest
  pub placed : Placed b 0 (opening k n ++ text) r.length b'
  pub inside : r.length ≤ length b
  pub state : r.state ≡ state_behind (start_state k n) rest
