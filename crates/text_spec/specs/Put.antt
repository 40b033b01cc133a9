-- A text put into a lent buffer at a place where it fits.
--     Placed b at t r b'      b' is the buffer b with the characters of t stored from place `at` on and everything else as it was, and r is the place behind them
use Rattle.std.specs.Prelude.{ℕ, ◌+◌, ◌≡◌, List, length}
use Rattle.std.proofs.lemmas.List.Edits.{sets}

pub record Placed (b : List ℕ) (at : ℕ) (t : List ℕ) (r : ℕ) (b' : List ℕ) : Type 0 where
  pub next : r ≡ at + length t
  pub bytes : b' ≡ sets b at t
