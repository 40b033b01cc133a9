-- What placing the lines of the rings that follow promises, in the words of `listing_spec`, specs/Paging. b is the buffer before, b' after, and `from` the place in it where the
-- text begins.
use Rattle.std.specs.Prelude.{ℕ, ◌+◌, ◌≤◌, ◌≡◌, true, false, List, ◌++◌, length}
use Rattle.text_spec.specs.Text.{last_line}
use Rattle.text_spec.specs.Put.{Placed}
use Rattle.listing_spec.specs.declared.State.{State}
use Rattle.listing_spec.specs.State.{state_ring, over, on, state_behind}
use Rattle.listing_spec.specs.Paging.{Goes}
use Rattle.listing_rows_inner.specs.declared.Rows.{Rows}

-- `more`: it stopped for want of room; else at the last ring, and there is room for the last line
pub record RowsSay (s : State) (b : List ℕ) (from : ℕ) (r : Rows) (b' : List ℕ) : Type 0 where
  pub text : List ℕ
  pub ring : List ℕ
  pub state : r.state ≡ state_behind s (on ring r.state.rings r.state.moves)
  pub placed : Placed b from text r.at b'
  pub inside : r.at ≤ length b
  pub full : r.more ≡ true → Goes s.k (length b) (state_ring s) s.rings s.moves from text (on ring r.state.rings r.state.moves)
  pub room : r.more ≡ false → r.at + length (last_line r.state.rings r.state.moves) ≤ length b
  pub ended : r.more ≡ false → Goes s.k (length b) (state_ring s) s.rings s.moves from (text ++ last_line r.state.rings r.state.moves) over
